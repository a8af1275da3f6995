use Rattle.fg_playout.proofs.RunsExist.{takings_exist}
use Rattle.fg_playout.proofs.laws.takings_exist.Goals as goal

pub returns : goal.returns
returns c = takings_exist c.peelings_are_told.ensures
