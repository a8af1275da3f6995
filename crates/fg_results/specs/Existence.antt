-- Each flow has a result. So what is said of all results of some records is said of one at least.
use Rattle.std.specs.Prelude.{◌≤◌, ℕ, List}
use Rattle.fg_flows.specs.declared.Plan.{Plan}
use Rattle.fg_trace.specs.Trace.{Record}
use Rattle.fg_shape.specs.Playout.{Playout}
use Rattle.fg_results.specs.Flow.{FlowResult, IsFlowResult}
use Rattle.fg_results.specs.Repair.{AreResults}

-- Any records give a flow a result.
abbrev pub FlowResultExists : Type 0
FlowResultExists =
    (playout : Playout) (flow : ℕ) (records : List Record) → 1 ≤ playout.window
    → (result : FlowResult) × IsFlowResult playout records flow result

-- And all flows of a plan.
abbrev pub ResultsExist : Type 0
ResultsExist =
    (plan : Plan) (records : List Record) → 1 ≤ plan.window
    → (results : List FlowResult) × AreResults plan records results
