use Rattle.fg_playout.proofs.Counts.{counts_add}
use Rattle.fg_playout.proofs.laws.counts_add.Goals as goal

pub returns : goal.returns
returns c = counts_add
