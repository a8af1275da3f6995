use Rattle.fg_io.proofs.OutletLemmas.{Puts-trans}
use Rattle.fg_io.proofs.laws.puts_join.Goals as goal

pub returns : goal.returns
returns c = Puts-trans
