use Rattle.fg_core.proofs.Runs as runs
use Rattle.fg_core.proofs.laws.core_holds.Goals as goal

pub returns : goal.returns
returns c =
    runs.core_holds c.opening_is_owned.ensures c.calls_extend.ensures c.calls_keep_told.ensures c.events_keep_owned.ensures
    c.events_keep_told.ensures c.answers_hold.ensures
