use Rattle.fg_playout.proofs.Beginnings.{flush_steps_come_next}
use Rattle.fg_playout.proofs.laws.flush_steps_come_next.Goals as goal

pub returns : goal.returns
returns c = flush_steps_come_next c.uniqueness.ensures
