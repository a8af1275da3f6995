use Rattle.fg_playout.proofs.OneRun.{one_run}
use Rattle.fg_playout.proofs.laws.one_run.Goals as goal

pub returns : goal.returns
returns c = one_run c.uniqueness.ensures
