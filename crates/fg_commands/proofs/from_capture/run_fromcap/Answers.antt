use Rattle.fg_commands.specs.Endings.{why_of_capture}
use Rattle.fg_commands.proofs.Came.{came_so}
use Rattle.fg_commands.proofs.FromCapture.{answered}
use Rattle.fg_commands.proofs.from_capture.run_fromcap.Goals as goal

pub returns : goal.returns
returns g c =
    let e = c.from_capture.ensures in
    came_so why_of_capture c.from_capture.result c.by.result c.by.ensures.status c.by.ensures.came c.by.ensures.failed
    (answered c.args.max c.from_capture.result e.whole e.exactly e.all_read e.reads e.refused e.part e.faults)
