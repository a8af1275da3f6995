use Rattle.fg_drill.proofs.Peeled.{peeled_are_shown}
use Rattle.fg_drill.proofs.laws.true_runs.peeled_slots_are_shown.Goals as goal

pub returns : goal.returns
returns c = peeled_are_shown
    c.one_list_of_desks.ensures.plays
    c.one_list_of_desks.ensures.desks
    c.one_list_of_desks.ensures.one
    c.runs_only_add.ensures.follow
    c.true_runs_are_repaired.ensures.repaired
