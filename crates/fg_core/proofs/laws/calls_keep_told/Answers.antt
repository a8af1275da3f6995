use Rattle.fg_core.proofs.Calls.{calls_keep_told}
use Rattle.fg_core.proofs.laws.calls_keep_told.Goals as goal

pub returns : goal.returns
returns c = calls_keep_told c.laws_of_calls.ensures
