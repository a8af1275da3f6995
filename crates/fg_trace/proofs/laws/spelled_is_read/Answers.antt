use Rattle.fg_trace.proofs.Endings.{spelled_is_read}
use Rattle.fg_trace.proofs.laws.spelled_is_read.Goals as goal

pub returns : goal.returns
returns c = spelled_is_read
