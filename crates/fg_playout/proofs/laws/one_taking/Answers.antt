use Rattle.fg_playout.proofs.Beginnings.{one_taking}
use Rattle.fg_playout.proofs.laws.one_taking.Goals as goal

pub returns : goal.returns
returns c = one_taking c.uniqueness.ensures
