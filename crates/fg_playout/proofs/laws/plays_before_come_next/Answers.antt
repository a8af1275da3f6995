use Rattle.fg_playout.proofs.Beginnings.{plays_before_come_next}
use Rattle.fg_playout.proofs.laws.plays_before_come_next.Goals as goal

pub returns : goal.returns
returns c = plays_before_come_next c.uniqueness.ensures
