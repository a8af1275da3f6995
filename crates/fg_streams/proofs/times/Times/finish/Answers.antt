use Rattle.std.proofs.lemmas.Result.{on_ok_weaker}
use Rattle.fg_streams.proofs.times.Times.finish.Goals as goal

pub returns : goal.returns
returns c = on_ok_weaker c.end_burst.result (λ ended times h. ended times (c.in_ok-drain.ensures.drained times h)) c.end_burst.ensures.ended
