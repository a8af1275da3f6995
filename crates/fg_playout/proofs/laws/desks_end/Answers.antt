use Rattle.fg_playout.proofs.DesksJoin.{due_desks_end, flush_desks_end, held_desks_end, no_held_desks, flush_desks_end_before, due_desks_end_before, run_desks_end}
use Rattle.fg_playout.proofs.laws.desks_end.Goals as goal

pub returns : goal.returns
returns c =
    search (due_desks_end, flush_desks_end, held_desks_end, no_held_desks, flush_desks_end_before, due_desks_end_before, run_desks_end)
