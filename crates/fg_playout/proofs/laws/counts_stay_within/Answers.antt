use Rattle.fg_playout.proofs.Counts.{counts_stay_within}
use Rattle.fg_playout.proofs.laws.counts_stay_within.Goals as goal

pub returns : goal.returns
returns c = counts_stay_within
