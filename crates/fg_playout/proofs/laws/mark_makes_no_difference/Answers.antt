use Rattle.fg_playout.proofs.Peeled.{closure_is_peelings, solutions_are_peelings, steps_are_ahead}
use Rattle.fg_playout.proofs.laws.mark_makes_no_difference.Goals as goal

pub returns-clause-closure : goal.returns-clause-closure
returns-clause-closure c = closure_is_peelings

pub returns-clause-solutions : goal.returns-clause-solutions
returns-clause-solutions c = solutions_are_peelings

pub returns-clause-steps : goal.returns-clause-steps
returns-clause-steps c = steps_are_ahead
