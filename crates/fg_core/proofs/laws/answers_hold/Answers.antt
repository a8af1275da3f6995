use Rattle.fg_core.proofs.Growing.{answers_hold}
use Rattle.fg_core.proofs.laws.answers_hold.Goals as goal

pub returns : goal.returns
returns c = answers_hold
