use Rattle.fg_playout.proofs.PlayKeeps.{closure_gains_nothing}
use Rattle.fg_playout.proofs.Flushing.{flush_ends}
use Rattle.fg_playout.proofs.Joining.{flush_steps_join, flush_steps_end}
use Rattle.fg_playout.proofs.laws.flushes_end.Goals as goal

pub returns : goal.returns
returns c = record {
  gains = closure_gains_nothing;
  ends = flush_ends;
  joined = flush_steps_join;
  nothing_left = flush_steps_end;
}
