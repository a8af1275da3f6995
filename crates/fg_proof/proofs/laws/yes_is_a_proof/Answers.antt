use Rattle.fg_proof.proofs.CasesProved.{yes_is_a_proof, no_peeling}
use Rattle.fg_proof.proofs.laws.yes_is_a_proof.Goals as goal

pub returns-clause-closure : goal.returns-clause-closure
returns-clause-closure c = yes_is_a_proof

pub returns-clause-peelings : goal.returns-clause-peelings
returns-clause-peelings c = no_peeling c.mark_makes_no_difference.ensures.closure c.peelings_fill_the_closure.ensures.within
