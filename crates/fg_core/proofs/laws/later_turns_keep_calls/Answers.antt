use Rattle.fg_core.proofs.Runs as runs
use Rattle.fg_core.proofs.laws.later_turns_keep_calls.Goals as goal

pub returns : goal.returns
returns c = runs.later_turns_keep_calls c.events_leave_the_state.ensures
