use Rattle.fg_turn.proofs.Follows.{home_state}
use Rattle.fg_turn.proofs.laws.home_state.Goals as goal

pub returns : goal.returns
returns g c = home_state g.S.Guarded.owner g.S.Guarded.grows
