use Rattle.fg_playout.proofs.Equations.{live_stand_under_serials}
use Rattle.fg_playout.proofs.laws.live_equations.Goals as goal

pub returns : goal.returns
returns c = live_stand_under_serials
