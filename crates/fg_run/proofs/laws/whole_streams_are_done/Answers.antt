use Rattle.fg_run.proofs.WholeStreams.{whole_done}
use Rattle.fg_run.proofs.laws.whole_streams_are_done.Goals as goal

pub returns : goal.returns
returns c = whole_done
