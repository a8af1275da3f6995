use Rattle.fg_playout.proofs.DesksJoin.{due_desks_join, flush_desks_join, held_desks_join, taken_desks_join, one_taken_desks}
use Rattle.fg_playout.proofs.laws.desks_join.Goals as goal

pub returns : goal.returns
returns c = record {
  due = due_desks_join;
  flushed = flush_desks_join;
  held = held_desks_join;
  taken = taken_desks_join;
  one_taken = one_taken_desks;
}
