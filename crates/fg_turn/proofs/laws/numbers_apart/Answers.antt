use Rattle.fg_turn.proofs.Follows.{numbers_apart}
use Rattle.fg_turn.proofs.laws.numbers_apart.Goals as goal

pub returns : goal.returns
returns g c = numbers_apart g.S.Guarded.owner g.S.Guarded.grows
