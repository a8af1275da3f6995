use Rattle.fg_io.proofs.OutletLemmas.{LaneGains-once}
use Rattle.fg_io.proofs.laws.one_lane.Goals as goal

pub returns : goal.returns
returns c = LaneGains-once
