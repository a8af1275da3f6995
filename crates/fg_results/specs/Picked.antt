-- What a pick leaves of the results of a flow: this project's own.
use Rattle.std.specs.Prelude.{◌≡◌, ◌↔◌, ℕ, None, List, []}
use Rattle.std.specs.List.{All, Contains}
use Rattle.fg_shape.specs.Playout.{Playout}
use Rattle.fg_flows.specs.declared.Plan.{Plan}
use Rattle.fg_flows.specs.declared.selection.Selection.{Selection}
use Rattle.fg_trace.specs.Trace.{Record}
use Rattle.fg_pick.specs.Picked.{Fits, IsPicked}
use Rattle.fg_results.specs.Flow.{FlowResult, IsFlowResult, records_of}
use Rattle.fg_results.specs.Repair.{AreResults}

-- All of the flow is picked: each of these records that is on one of its three ports fits.
abbrev pub PicksFlow : Selection → List Record → ℕ → Type 0
PicksFlow selection records flow = All (Fits selection) (records_of flow records)

-- What is picked of records gives a flow, of which all is picked, the results that all records give it.
abbrev pub PickedFlowResult : Type 0
PickedFlowResult =
    (playout : Playout) (selection : Selection) (records picked : List Record) (flow : ℕ) (result : FlowResult)
    → IsPicked selection records picked → PicksFlow selection records flow
    → IsFlowResult playout picked flow result ↔ IsFlowResult playout records flow result

-- And so it does the flows of a plan, of each of which all is picked.
abbrev pub PickedResults : Type 0
PickedResults =
    (plan : Plan) (selection : Selection) (records picked : List Record) (results : List FlowResult)
    → IsPicked selection records picked → All (PicksFlow selection records) plan.table
    → AreResults plan picked results ↔ AreResults plan records results

-- Of a flow that is named all is picked, where neither synchronization sources nor times are set.
abbrev pub NamedFlowsArePicked : Type 0
NamedFlowsArePicked =
    (selection : Selection) (records : List Record) (flow : ℕ)
    → Contains selection.flows flow → selection.sources ≡ [] → selection.without ≡ [] → selection.from ≡ 0
    → selection.until ≡ None → PicksFlow selection records flow
