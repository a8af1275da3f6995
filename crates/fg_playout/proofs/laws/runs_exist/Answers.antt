use Rattle.fg_playout.proofs.RunsExist.{runs_exist}
use Rattle.fg_playout.proofs.laws.runs_exist.Goals as goal

pub returns : goal.returns
returns c = runs_exist c.peelings_are_told.ensures
