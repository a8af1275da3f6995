use Rattle.fg_check.proofs.Endings.{one_check}
use Rattle.fg_check.proofs.laws.one_check.Goals as goal

pub returns : goal.returns
returns c = one_check
