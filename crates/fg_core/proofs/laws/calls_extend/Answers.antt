use Rattle.fg_core.proofs.Calls.{calls_extend}
use Rattle.fg_core.proofs.laws.calls_extend.Goals as goal

pub returns : goal.returns
returns c = calls_extend c.laws_of_calls.ensures
