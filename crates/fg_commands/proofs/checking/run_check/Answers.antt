use Rattle.fg_commands.specs.Endings.{why_of_checked}
use Rattle.fg_commands.proofs.Came.{came_so}
use Rattle.fg_commands.proofs.Judged.{answered}
use Rattle.fg_commands.proofs.checking.run_check.Goals as goal

pub returns : goal.returns
returns g c =
    let e = c.check_cases.ensures in
    came_so why_of_checked c.check_cases.result c.by.result c.by.ensures.status c.by.ensures.came c.by.ensures.failed
    (answered c.one_check.ensures c.one_text.ensures.answers c.one_told.ensures c.args.max c.check_cases.result e.whole e.all_read e.reads e.part e.faults)
