use Rattle.fg_proof.proofs.CasesOne.{one_case, one_answer}
use Rattle.fg_proof.proofs.laws.one_case.Goals as goal

pub returns-clause-case : goal.returns-clause-case
returns-clause-case c = one_case c.one_list_of_runs.ensures

pub returns-clause-answer : goal.returns-clause-answer
returns-clause-answer c = one_answer
