use Rattle.fg_turn.proofs.Follows.{entered_state}
use Rattle.fg_turn.proofs.laws.entered_state.Goals as goal

pub returns : goal.returns
returns g c = entered_state g.S.Guarded.owner g.S.Guarded.grows
