use Rattle.fg_turn.proofs.Follows.{sees_a_beginning}
use Rattle.fg_turn.proofs.laws.sees_a_beginning.Goals as goal

pub returns : goal.returns
returns g c = sees_a_beginning g.S.Guarded.owner g.S.Guarded.grows
