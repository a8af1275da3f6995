-- What a flow has shown where a fault stops it.
use Rattle.std.proofs.Common.{ℕ, List}
use Rattle.fg_report.specs.declared.flow_sum.FlowSum.{FlowSum}
use Rattle.fg_playout.specs.State.{State}
use Rattle.fg_trace.specs.Trace.{Record}
use Rattle.fg_shape.specs.Playout.{Playout}
use Rattle.fg_engine.specs.Steps.{HasTaken}
use Rattle.fg_results.specs.Stops.{HasShown}

-- What a flow has shown that took these records.
pub shown_of :
    (playout : Playout) (flow : ℕ) (records : List Record) (state : State) (sum : FlowSum) (lane : List ℕ)
    → HasTaken playout flow records state sum lane → HasShown playout flow records lane
shown_of playout flow records state sum lane h = record {
  arrivals = h.arrivals;
  plays = h.plays;
  replies = h.replies;
  state = state;
  arrive = h.arrive;
  takes = h.takes;
  bytes_are = h.lane_is;
}
