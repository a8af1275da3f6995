use Rattle.fg_peel.proofs.Found.{found_closure, found_solutions}
use Rattle.fg_peel.proofs.laws.found_words_may_be_known.Goals as goal

pub returns-clause-closure : goal.returns-clause-closure
returns-clause-closure c = found_closure

pub returns-clause-solutions : goal.returns-clause-solutions
returns-clause-solutions c = found_solutions
