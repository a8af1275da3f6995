use Rattle.fg_playout.proofs.Peeled.{one_solution}
use Rattle.fg_playout.proofs.laws.one_solution.Goals as goal

pub returns : goal.returns
returns c = one_solution c.uniqueness.ensures
