use Rattle.fg_turn.proofs.Follows.{tickets_count}
use Rattle.fg_turn.proofs.laws.tickets_count.Goals as goal

pub returns : goal.returns
returns g c = tickets_count g.S.Guarded.owner g.S.Guarded.grows
