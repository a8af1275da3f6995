use Rattle.fg_io.proofs.SourceLemmas.{Gives-once}
use Rattle.fg_io.proofs.laws.one_rest.Goals as goal

pub returns : goal.returns
returns c = Gives-once
