use Rattle.fg_streams.proofs.Timing.{no_times}
use Rattle.fg_streams.proofs.times.Times.new.Goals as goal

pub returns : goal.returns
returns c = no_times _ _ c.in_ok-new-2.ensures c.in_ok-new.ensures
