use Rattle.fg_playout.proofs.Joining.{takings_join, plays_due_join, plays_due_end, flush_ends_before, due_end_before, ready_after_plays, held_steps_join, held_steps_end}
use Rattle.fg_playout.proofs.laws.runs_join.Goals as goal

pub returns : goal.returns
returns c =
    search (takings_join, plays_due_join, plays_due_end, flush_ends_before, due_end_before, ready_after_plays, held_steps_join, held_steps_end)
