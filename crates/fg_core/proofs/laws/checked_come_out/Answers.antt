use Rattle.fg_core.proofs.Told.{checked_come_out}
use Rattle.fg_core.proofs.laws.checked_come_out.Goals as goal

pub returns : goal.returns
returns c = checked_come_out
