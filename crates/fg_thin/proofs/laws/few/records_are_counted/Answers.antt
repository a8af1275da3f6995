use Rattle.fg_thin.proofs.FewLemmas.{records_counted}
use Rattle.fg_thin.proofs.laws.few.records_are_counted.Goals as goal

pub returns : goal.returns
returns c = records_counted
