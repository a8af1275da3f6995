use Rattle.fg_playout.proofs.DesksComeNext.{taken_desks_come_first, desks_before_come_next, desks_before_come_next_in_runs, flush_desks_come_next}
use Rattle.fg_playout.proofs.laws.desks_come_in_order.Goals as goal

pub returns : goal.returns
returns c = record {
  taken = taken_desks_come_first c.uniqueness.ensures;
  next = desks_before_come_next c.uniqueness.ensures;
  next_in_runs = desks_before_come_next_in_runs c.uniqueness.ensures;
  flushed = flush_desks_come_next c.uniqueness.ensures;
}
