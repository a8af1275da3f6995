use Rattle.fg_core.proofs.Events.{events_keep_owned}
use Rattle.fg_core.proofs.laws.events_keep_owned.Goals as goal

pub returns : goal.returns
returns c = events_keep_owned c.peelings_fill_the_closure.ensures.appended c.live_equations.ensures
