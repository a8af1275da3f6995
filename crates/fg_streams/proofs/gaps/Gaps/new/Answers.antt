use Rattle.std.proofs.Common.{refl}
use Rattle.fg_streams.proofs.Closing.{nothing_closed}
use Rattle.fg_streams.proofs.gaps.Gaps.new.Goals as goal

pub returns : goal.returns
returns c = nothing_closed _ refl refl refl c.new.ensures c.in_ok-with_capacity.ensures.items
