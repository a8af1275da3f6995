use Rattle.fg_io.proofs.SourceLemmas.{Gives-trans}
use Rattle.fg_io.proofs.laws.reads_join.Goals as goal

pub returns : goal.returns
returns c = Gives-trans
