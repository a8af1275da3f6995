use Rattle.fg_io.proofs.SinkLemmas.{Gains-trans}
use Rattle.fg_io.proofs.laws.writes_join.Goals as goal

pub returns : goal.returns
returns c = Gains-trans
