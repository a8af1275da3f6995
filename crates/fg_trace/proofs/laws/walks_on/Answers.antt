use Rattle.fg_trace.proofs.Walks.{walks_on}
use Rattle.fg_trace.proofs.laws.walks_on.Goals as goal

pub returns : goal.returns
returns c = walks_on
