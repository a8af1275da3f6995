use Rattle.fg_prove.proofs.Telling.{cases_join, cases_split}
use Rattle.fg_prove.proofs.laws.cases_of_front.Goals as goal

pub returns-clause-joined : goal.returns-clause-joined
returns-clause-joined c = cases_join

pub returns-clause-split : goal.returns-clause-split
returns-clause-split c = cases_split
