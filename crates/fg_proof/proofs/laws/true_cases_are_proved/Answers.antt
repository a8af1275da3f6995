use Rattle.fg_proof.proofs.CasesTrue.{cases_tell_all, true_cases}
use Rattle.fg_proof.proofs.laws.true_cases_are_proved.Goals as goal

pub returns-clause-tell : goal.returns-clause-tell
returns-clause-tell c = cases_tell_all

pub returns-clause-proved : goal.returns-clause-proved
returns-clause-proved c = true_cases c.mark_makes_no_difference.ensures.closure c.closure_is_least.ensures.tested
