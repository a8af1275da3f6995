use Rattle.fg_core.proofs.Growing.{events_keep_told}
use Rattle.fg_core.proofs.laws.events_keep_told.Goals as goal

pub returns : goal.returns
returns c = events_keep_told
