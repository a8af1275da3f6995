use Rattle.fg_runs.proofs.RunLemmas.{one_list}
use Rattle.fg_runs.proofs.laws.one_list_of_runs.Goals as goal

pub returns : goal.returns
returns c = one_list
