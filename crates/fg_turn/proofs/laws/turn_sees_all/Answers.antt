use Rattle.fg_turn.proofs.Follows.{turn_sees_all}
use Rattle.fg_turn.proofs.laws.turn_sees_all.Goals as goal

pub returns : goal.returns
returns g c = turn_sees_all g.S.Guarded.owner g.S.Guarded.grows
