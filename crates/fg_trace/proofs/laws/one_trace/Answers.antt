use Rattle.fg_trace.proofs.Endings.{one_trace}
use Rattle.fg_trace.proofs.laws.one_trace.Goals as goal

pub returns : goal.returns
returns c = one_trace
