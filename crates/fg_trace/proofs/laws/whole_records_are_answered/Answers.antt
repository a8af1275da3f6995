use Rattle.fg_trace.proofs.Fronts.{one_longest}
use Rattle.fg_trace.proofs.Longest.{answered, unopened}
use Rattle.fg_trace.proofs.laws.whole_records_are_answered.Goals as goal

pub returns-clause-one : goal.returns-clause-one
returns-clause-one c = one_longest

pub returns-clause-answered : goal.returns-clause-answered
returns-clause-answered c = answered

pub returns-clause-unopened : goal.returns-clause-unopened
returns-clause-unopened c = unopened
