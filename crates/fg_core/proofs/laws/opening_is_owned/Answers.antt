use Rattle.fg_core.proofs.Owned.{opening_is_owned}
use Rattle.fg_core.proofs.laws.opening_is_owned.Goals as goal

pub returns : goal.returns
returns c = opening_is_owned c.facts_are_kept.ensures.opening
