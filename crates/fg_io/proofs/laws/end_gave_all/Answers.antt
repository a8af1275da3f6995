use Rattle.fg_io.proofs.SourceLemmas.{Gives-all}
use Rattle.fg_io.proofs.laws.end_gave_all.Goals as goal

pub returns : goal.returns
returns c = Gives-all
