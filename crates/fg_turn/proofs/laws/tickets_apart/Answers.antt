use Rattle.fg_turn.proofs.Follows.{tickets_apart}
use Rattle.fg_turn.proofs.laws.tickets_apart.Goals as goal

pub returns : goal.returns
returns g c = tickets_apart g.S.Guarded.owner g.S.Guarded.grows
