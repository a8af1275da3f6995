use Rattle.fg_core.proofs.Told.{worked_words_follow}
use Rattle.fg_core.proofs.laws.worked_words_follow.Goals as goal

pub returns : goal.returns
returns c = worked_words_follow c.live_equations.ensures
