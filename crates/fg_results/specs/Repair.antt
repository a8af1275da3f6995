-- What a repair gives for the bytes of a trace: lanes and a report. This project's own. Threads are no part of it.
use Rattle.std.specs.Prelude.{◌≡◌, ◌⊎◌, ℕ, not, List, map, Option, IfSome}
use Rattle.std.specs.List.{AllZip, count_by, list_any}
use Rattle.fg_io.specs.Sink.{Gains, GainsPart}
use Rattle.fg_io.specs.Outlet.{Lanes, WhereTold}
use Rattle.fg_trace.specs.declared.step.Finish.{Finish}
use Rattle.fg_trace.specs.Finish.{finish_of}
use Rattle.fg_trace.specs.Trace.{Record, Ending, Ended, NotTrace, Cut, TooLong, IsTrace}
use Rattle.fg_flows.specs.declared.Plan.{Plan}
use Rattle.fg_flows.specs.Plan.{playout_of}
use Rattle.fg_report.specs.declared.tail.Tail.{Tail}
use Rattle.fg_report.specs.declared.tail.Tail.TheVariants as tail
use Rattle.fg_report.specs.Text.{report_of}
use Rattle.fg_results.specs.Flow.{FlowResult, IsFlowResult, is_of}
use Rattle.fg_results.specs.Lanes.{OthersStay, PutsAll, PutsAllPart}

-- The records give each flow of the plan its result, in the order of the flows.
abbrev pub AreResults : Plan → List Record → List FlowResult → Type 0
AreResults plan records results = AllZip (IsFlowResult (playout_of plan) records) plan.table results

-- The lanes of the results.
abbrev pub lanes_of : List FlowResult → List (List ℕ)
lanes_of results = map (λ result. result.lane) results

-- How many records are on a port of no flow.
abbrev pub others_of : List ℕ → List Record → ℕ
others_of flows records = count_by (λ r. not (list_any (λ flow. is_of flow r) flows)) records

-- How the report tells the trace's end. What is no trace has no report.
abbrev pub tail_of : Ending → Tail
tail_of Ended = tail.Ended
tail_of (NotTrace n) = tail.Ended
tail_of (Cut n) = tail.Cut n
tail_of (TooLong n) = tail.TooLong n

-- The report's text.
abbrev pub report_text : Plan → List Record → List FlowResult → Ending → List ℕ
report_text plan records results end =
    report_of (map (λ result. result.sum) results) (others_of plan.table records) (tail_of end)

-- What lanes and sink have gained of records that end so: each flow's lane its bytes, and the sink the report. Where the
-- input is no trace, there is neither.
abbrev pub Gain :
    Plan → List Record → List FlowResult → Ending → Option Lanes → Option Lanes → Option (List ℕ) → Option (List ℕ) → Type 0
Gain plan records results (NotTrace n) lanes lanes' written written' = (lanes' ≡ lanes) × (written' ≡ written)
Gain plan records results end lanes lanes' written written' =
    PutsAll lanes plan.table (lanes_of results) lanes' × Gains written (report_text plan records results end) written'

-- The outputs have gained what is defined for the input, and the trace ends so.
pub record Outputs
    (plan : Plan) (end : Ending) (input : Option (List ℕ))
    (lanes lanes' : Option Lanes) (written written' : Option (List ℕ)) : Type 0 where
  pub records : List Record
  pub results : List FlowResult
  pub of_input : IfSome input (λ bytes. IsTrace bytes plan.max records end)
  pub are_results : AreResults plan records results
  pub gain : Gain plan records results end lanes lanes' written written'

-- What a fault leaves of that, the lanes first: each flow's lane has gained a prefix of its bytes, and the sink nothing; or
-- each lane is whole, and the sink has gained a prefix of the report. The lanes of other ports are as they were.
pub record OutputsPart {K : Type 0}
    (plan : Plan) (input : Option (List ℕ)) (lanes lanes' : Option Lanes)
    (written : K → Option (List ℕ)) (out out' : K) : Type 0 where
  pub others : WhereTold (OthersStay plan.table) lanes lanes'
  pub front : IfSome input (λ bytes. (records : List Record) (results : List FlowResult) (end : Ending)
      → IsTrace bytes plan.max records end → AreResults plan records results
      → (PutsAllPart lanes plan.table (lanes_of results) lanes' × (out' ≡ out))
      ⊎ (PutsAll lanes plan.table (lanes_of results) lanes'
      × GainsPart (written out) (report_text plan records results end) (written out')))

-- The answer is the one of an ending, with the outputs whole.
abbrev pub Finishes :
    Plan → Finish → Option (List ℕ) → Option Lanes → Option Lanes → Option (List ℕ) → Option (List ℕ) → Type 0
Finishes plan answer input lanes lanes' written written' =
    (end : Ending) × (answer ≡ finish_of end) × Outputs plan end input lanes lanes' written written'
