use Rattle.fg_peel.proofs.Truths.{truth_solvable, solutions_true}
use Rattle.fg_peel.proofs.laws.true_words_solve.Goals as goal

pub returns-clause-exists : goal.returns-clause-exists
returns-clause-exists c = truth_solvable

pub returns-clause-found : goal.returns-clause-found
returns-clause-found c = solutions_true
