use Rattle.fg_turn.proofs.Follows.{one_turn}
use Rattle.fg_turn.proofs.laws.one_turn.Goals as goal

pub returns : goal.returns
returns g c = one_turn g.S.Guarded.owner g.S.Guarded.grows
