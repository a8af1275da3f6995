use Rattle.fg_trace.proofs.Walks.{walks_the_front}
use Rattle.fg_trace.proofs.laws.walks_the_front.Goals as goal

pub returns : goal.returns
returns c = walks_the_front
