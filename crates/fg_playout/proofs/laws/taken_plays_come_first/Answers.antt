use Rattle.fg_playout.proofs.Beginnings.{taken_plays_come_first}
use Rattle.fg_playout.proofs.laws.taken_plays_come_first.Goals as goal

pub returns : goal.returns
returns c = taken_plays_come_first c.uniqueness.ensures
