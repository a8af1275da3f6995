use Rattle.fg_turn.proofs.Follows.{few_tickets}
use Rattle.fg_turn.proofs.laws.few_tickets.Goals as goal

pub returns : goal.returns
returns g c = few_tickets g.S.Guarded.owner g.S.Guarded.grows
