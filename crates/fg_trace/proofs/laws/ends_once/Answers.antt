use Rattle.fg_trace.proofs.Walks.{ends_once}
use Rattle.fg_trace.proofs.laws.ends_once.Goals as goal

pub returns : goal.returns
returns c = ends_once
