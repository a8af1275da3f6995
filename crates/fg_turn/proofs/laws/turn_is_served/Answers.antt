use Rattle.fg_turn.proofs.Follows.{turn_is_served}
use Rattle.fg_turn.proofs.laws.turn_is_served.Goals as goal

pub returns : goal.returns
returns g c = turn_is_served g.S.Guarded.owner g.S.Guarded.grows
