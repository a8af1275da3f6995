use Rattle.fg_trace.proofs.Walks.{spelled_is_walked}
use Rattle.fg_trace.proofs.laws.spelled_is_walked.Goals as goal

pub returns : goal.returns
returns c = spelled_is_walked
