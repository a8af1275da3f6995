use Rattle.fg_pick.proofs.Walking.{comes_back}
use Rattle.fg_pick.proofs.walk.pick.Goals as goal

pub returns-in-Ok-clause-comes_back : goal.returns-in-Ok-clause-comes_back
returns-in-Ok-clause-comes_back g c =
    comes_back c.one_trace.ensures c.spelled_is_read.ensures c.one_picked.ensures.one c.args.selection.now c.args.max c.in-Ok.finish _ _ _ c.in-Ok.ensures.whole
