use Rattle.fg_playout.proofs.PlayOutcomes.{solutions_are_decided}
use Rattle.fg_playout.proofs.laws.solutions_are_decided.Goals as goal

pub returns : goal.returns
returns c = solutions_are_decided c.peelings_are_told.ensures
