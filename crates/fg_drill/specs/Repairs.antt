-- What comes back of a thinned encoding that is repaired. This project's own.
use Rattle.std.specs.Prelude.{◌≡◌, ◌++◌, ℕ, Bool, List, Option, Some}
use Rattle.fg_io.specs.Outlet.{Lanes, WhereTold, lane_bytes, lane_of}
use Rattle.fg_shape.specs.declared.encoding.Settings.{Settings}
use Rattle.fg_flows.specs.declared.Plan.{Plan}
use Rattle.fg_flows.specs.Plan.{playout_of}
use Rattle.fg_results.specs.Flow.{FlowResult}
use Rattle.fg_drill.specs.ComesBack.{FlowComesBack, IsThinnedTrace}

-- The lane of the port is what it was and then the piece, where lanes are told. Nothing is said of other lanes.
abbrev pub LaneGains : Option Lanes → ℕ → List ℕ → Option Lanes → Type 0
LaneGains lanes port piece lanes' =
    WhereTold (λ old new. lane_of new port ≡ Some (lane_bytes old port ++ piece)) lanes lanes'

-- Each thinned encoding that these bytes exactly are, on the port of one of the plan's flows, comes back on that flow's lane:
-- whatever it encodes, however it is set, and whatever is lost within the rule.
abbrev pub EncodingsComeBack : Plan → List ℕ → Option Lanes → Option Lanes → Type 0
EncodingsComeBack plan bytes lanes lanes' =
    (settings : Settings) (payloads : List (List ℕ)) (lost : ℕ → Bool)
    → IsThinnedTrace (playout_of plan) plan.table plan.max bytes settings payloads lost
    → (result : FlowResult) × FlowComesBack (playout_of plan) settings payloads lost result
    × LaneGains lanes settings.port result.lane lanes'
