use Rattle.fg_peel.proofs.Settled.{settled_closure, settled_solutions}
use Rattle.fg_peel.proofs.laws.settled_equations_add_nothing.Goals as goal

pub returns-clause-closure : goal.returns-clause-closure
returns-clause-closure c = settled_closure

pub returns-clause-solutions : goal.returns-clause-solutions
returns-clause-solutions c = settled_solutions
