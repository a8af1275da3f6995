use Rattle.fg_commands.specs.Endings.{why_of_spelling}
use Rattle.fg_commands.proofs.Came.{came_so}
use Rattle.fg_commands.proofs.ToCapture.{answered}
use Rattle.fg_commands.proofs.to_capture.run_tocap.Goals as goal

pub returns : goal.returns
returns g c =
    let e = c.to_capture.ensures in
    came_so why_of_spelling c.to_capture.result c.by.result c.by.ensures.status c.by.ensures.came c.by.ensures.failed
    (answered c.args.max c.to_capture.result e.whole e.exactly e.all_read e.comes_back e.reads e.refused e.part e.faults)
