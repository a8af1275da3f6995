use Rattle.fg_core.proofs.OneDesk.{calls_make_one_desk}
use Rattle.fg_core.proofs.laws.calls_make_one_desk.Goals as goal

pub returns : goal.returns
returns c = calls_make_one_desk c.laws_of_calls.ensures
