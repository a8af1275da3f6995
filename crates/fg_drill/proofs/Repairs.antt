-- What a repair comes to: what comes back of a thinned encoding, and where a fault stops it.
use Rattle.std.proofs.Common.{◌≡◌, ◌⊎◌, inl, inr, ℕ, zero, suc, ◌<◌, ◌≤◌, ◌^◌, Option, None, Some, IfSome, Ok, List, [], ◌∷◌, ◌++◌, length, refl, sym, subst, arith}
use Rattle.std.specs.List.{AllZip, Contains, slice_index_or}
use Rattle.fg_io.specs.Outlet.{Lanes, lane_bytes, lane_of}
use Rattle.fg_shape.specs.declared.encoding.Losses.{Losses}
use Rattle.fg_shape.specs.declared.encoding.Settings.{Settings}
use Rattle.fg_trace.specs.declared.step.Finish.{Finish}
use Rattle.fg_trace.specs.declared.step.Finish.TheVariants as finish
use Rattle.fg_trace.specs.Finish.{IsFault as IsFinishFault}
use Rattle.fg_trace.specs.Laws.{OneTrace}
use Rattle.fg_trace.specs.Trace.{Record, Ending, Ended, IsTrace}
use Rattle.fg_flows.specs.declared.Plan.{Plan}
use Rattle.fg_flows.specs.Plan.{playout_of}
use Rattle.fg_shape.specs.Settings.{CanEncode}
use Rattle.fg_encode.specs.Stream.{StreamEnding, IsCut}
use Rattle.fg_results.specs.Flow.{FlowResult, IsFlowResult}
use Rattle.fg_results.specs.Lanes.{PutsAll}
use Rattle.fg_results.specs.Repair.{AreResults, Gain, Outputs, Finishes, lanes_of}
use Rattle.fg_results.specs.Stops.{Growth, Stops, Making, growth_of}
use Rattle.fg_results.proofs.StopLemmas.{may_make, stops_whole}
use Rattle.fg_drill.specs.ComesBack.{ThinnedTraceComesBack, ThinnedTraceIsRead}
use Rattle.fg_thin.specs.PayloadLaws.{CutPayloads}
use Rattle.fg_thin.specs.ThinnedSource.{thinned_trace}
use Rattle.fg_thin.specs.TraceLaws.{StreamIsTrace}
use Rattle.fg_drill.specs.Drill.{Answer, IsFault, StopsLanes, answer_to, records_sent}
use Rattle.fg_drill.specs.DrillLaws.{RepairsComeBack, trace_sent}
use Rattle.fg_drill.specs.DrillSteps.{IsEndingsAnswer, StopsTrace}
use Rattle.fg_drill.specs.Repairs.{EncodingsComeBack, LaneGains}
use Rattle.fg_drill.proofs.Drills.{sent_trace}

-- What comes back

-- what a flow comes to, and its lane
record AtFlow (P : ℕ → FlowResult → Type 0) (Q : ℕ → List ℕ → Type 0) (port : ℕ) : Type 0 where
  pub result : FlowResult
  pub is : P port result
  pub gains : Q port result.lane

at_flow : (P : ℕ → FlowResult → Type 0) (Q : ℕ → List ℕ → Type 0) (ports : List ℕ) (results : List FlowResult) (port k : ℕ) → k < length ports → slice_index_or ports k port ≡ port
    → AllZip P ports results → AllZip Q ports (lanes_of results) → AtFlow P Q port
at_flow P Q [] results port k within at h q = absurd (omega (arith, within))
at_flow P Q (p ∷ ps) [] port k within at h q = absurd h
at_flow P Q (p ∷ ps) (r ∷ rs) port zero within at h q = record { result = r; is = subst (λ n. P n r) at h.0; gains = subst (λ n. Q n r.lane) at q.0 }
at_flow P Q (p ∷ ps) (r ∷ rs) port (suc k) within at h q = at_flow P Q ps rs port k (omega (arith, within)) at h.1 q.1

all_true : (P : ℕ → FlowResult → Type 0) (ports : List ℕ) (results : List FlowResult) → AllZip P ports results → AllZip (λ port piece. Unit {0}) ports (lanes_of results)
all_true P [] [] h = tt
all_true P [] (r ∷ rs) h = absurd h
all_true P (p ∷ ps) [] h = absurd h
all_true P (p ∷ ps) (r ∷ rs) h = (tt, all_true P ps rs h.1)

lane_at : (P : ℕ → FlowResult → Type 0) (ports : List ℕ) (results : List FlowResult) (port : ℕ) (lanes lanes' : Option Lanes) → Contains ports port
    → AllZip P ports results → PutsAll lanes ports (lanes_of results) lanes' → (result : FlowResult) × P port result × LaneGains lanes port result.lane lanes'
lane_at P ports results port None None on h q =
    let at = at_flow P (λ port piece. Unit {0}) ports results port on.0 on.1 on.2 h (all_true P ports results h) in (at.result, at.is, tt)
lane_at P ports results port None (Some new) on h q = absurd q
lane_at P ports results port (Some old) None on h q = absurd q
lane_at P ports results port (Some old) (Some new) on h q =
    let Q : ℕ → List ℕ → Type 0 = λ port piece. lane_of new port ≡ Some (lane_bytes old port ++ piece) in
    let at = at_flow P Q ports results port on.0 on.1 on.2 h q.lanes in (at.result, at.is, at.gains)

pub repairs_come_back : ThinnedTraceIsRead → ThinnedTraceComesBack → RepairsComeBack
repairs_come_back read back plan bytes end lanes lanes' written written' h = λ settings payloads lost is.
    let same = (read (playout_of plan) plan.max plan.table bytes settings payloads lost is).1 h.records end h.of_input in
    let gain : Gain plan h.records h.results Ended lanes lanes' written written' = subst (λ e. Gain plan h.records h.results e lanes lanes' written written') same.1 h.gain in
    let at = lane_at (IsFlowResult (playout_of plan) h.records) plan.table h.results settings.port lanes lanes' is.flow h.are_results gain.0 in (
      at.0,
      back (playout_of plan) plan.max plan.table bytes settings payloads lost h.records end at.0 is h.of_input at.1,
      at.2,
    )

-- with no fault
pub finishes_back : RepairsComeBack → (plan : Plan) (answer : Finish) (input : Option (List ℕ)) (lanes lanes' : Option Lanes) (written written' : Option (List ℕ))
    → IsFinishFault answer ⊎ Finishes plan answer input lanes lanes' written written'
    → IfSome input (λ bytes. IsFinishFault answer ⊎ EncodingsComeBack plan bytes lanes lanes')
finishes_back law plan answer None lanes lanes' written written' h = tt
finishes_back law plan answer (Some bytes) lanes lanes' written written' (inl fault) = inl fault
finishes_back law plan answer (Some bytes) lanes lanes' written written' (inr h) = inr (law plan bytes h.0 lanes lanes' written written' h.2)

-- Where it stops

pub finish_stops : (plan : Plan) (answer : Finish) (input : Option (List ℕ)) (lanes lanes' : Option Lanes)
    → (IsFinishFault answer → IfSome input (λ bytes. (records : List Record) (end : Ending) → IsTrace bytes plan.max records end → Stops (growth_of plan) plan answer records lanes lanes'))
    → IsFinishFault answer → StopsTrace plan input (Ok answer) lanes lanes'
finish_stops plan answer None lanes lanes' h fault = tt
finish_stops plan answer (Some bytes) lanes lanes' h fault = λ records end is. (answer, refl, h fault records end is)

-- nothing was made
nothing_made : (lanes : Option Lanes) → PutsAll lanes [] [] lanes
nothing_made None = tt
nothing_made (Some lanes) = record { lanes = tt; others = λ other no. refl }

pub nothing_stops : (growth : Growth) (plan : Plan) (answer : Finish) (records : List Record) (lanes : Option Lanes) → Stops growth plan answer records lanes lanes
nothing_stops growth plan answer records lanes = record {
  stage = Making zero;
  may = may_make growth answer zero;
  broken = None;
  unbroken = λ e. refl;
  pieces = [];
  gained = tt;
  puts = nothing_made lanes;
}

pub stops_first : (plan : Plan) (answer : Finish) (records : List Record) (lanes : Option Lanes) → StopsLanes plan (Ok answer) records lanes lanes
stops_first plan answer records lanes = (answer, refl, nothing_stops (growth_of plan) plan answer records lanes)

-- after whole lanes a read failed
pub last_read_stops : OneTrace → (plan : Plan) (trace : Option (List ℕ)) (lanes lanes' : Option Lanes) (written written' : Option (List ℕ))
    → Outputs plan Ended trace lanes lanes' written written' → StopsTrace plan trace (Ok finish.ReadFault) lanes lanes'
last_read_stops one plan None lanes lanes' written written' h = tt
last_read_stops one plan (Some bytes) lanes lanes' written written' h = λ records end is.
    let same = one bytes plan.max h.records records Ended end h.of_input is in
    (finish.ReadFault, refl, stops_whole (growth_of plan) plan finish.ReadFault records h.results lanes lanes' (subst (λ rs. AreResults plan rs h.results) same.0 h.are_results) h.gain.0)

ending_no_fault : (end : StreamEnding) → IsFault (answer_to end) → ⊥
ending_no_fault None h = h
ending_no_fault (Some fault) h = h

pub done_stops : OneTrace → (plan : Plan) (packets max : ℕ) (stream trace : Option (List ℕ)) (lanes lanes' : Option Lanes) (written written' : Option (List ℕ)) (answer : Answer) → IsFault answer
    → (answer ≡ Ok finish.ReadFault) ⊎ IsEndingsAnswer packets max stream answer → Outputs plan Ended trace lanes lanes' written written' → StopsTrace plan trace answer lanes lanes'
done_stops one plan packets max stream trace lanes lanes' written written' answer fault (inl read) h =
    subst (λ a. StopsTrace plan trace a lanes lanes') (sym read) (last_read_stops one plan trace lanes lanes' written written' h)
done_stops one plan packets max stream trace lanes lanes' written written' answer fault (inr ends) h = absurd (ending_no_fault ends.0 (subst IsFault ends.1 fault))

-- a drill stops where the repair of what is sent does
pub drill_stops : StreamIsTrace → CutPayloads → (settings : Settings) (plan : Plan) (losses : Losses) (max : ℕ) (answer : Answer) (input : Option (List ℕ)) (lanes lanes' : Option Lanes)
    → CanEncode settings → plan.max ≡ 2 ^ 42 → max ≤ 2 ^ 40 → StopsTrace plan (trace_sent settings losses max input) answer lanes lanes'
    → IfSome input (λ bytes. (payloads : List (List ℕ)) (end : StreamEnding) → IsCut settings.packets max bytes payloads end → StopsLanes plan answer (records_sent settings losses payloads) lanes lanes')
drill_stops law cuts settings plan losses max answer None lanes lanes' can inner limit h = tt
drill_stops law cuts settings plan losses max answer (Some bytes) lanes lanes' can inner limit h = λ payloads end cut.
    let same = cuts settings.packets max bytes payloads end can.packets.0 cut in
    h (records_sent settings losses payloads) Ended
    (subst (λ ps. IsTrace (thinned_trace settings losses max bytes) plan.max (records_sent settings losses ps) Ended) same (sent_trace law settings plan losses max bytes can inner limit))

pub drill_stops_first : (settings : Settings) (plan : Plan) (losses : Losses) (max : ℕ) (answer : Finish) (input : Option (List ℕ)) (lanes : Option Lanes)
    → IfSome input (λ bytes. (payloads : List (List ℕ)) (end : StreamEnding) → IsCut settings.packets max bytes payloads end → StopsLanes plan (Ok answer) (records_sent settings losses payloads) lanes lanes)
drill_stops_first settings plan losses max answer None lanes = tt
drill_stops_first settings plan losses max answer (Some bytes) lanes = λ payloads end cut. stops_first plan answer (records_sent settings losses payloads) lanes

-- what is repaired is what is sent of the input
pub stops_as_told : (plan : Plan) (answer : Answer) (lanes lanes' : Option Lanes) (trace trace' : Option (List ℕ))
    → trace ≡ trace' → StopsTrace plan trace answer lanes lanes' → StopsTrace plan trace' answer lanes lanes'
stops_as_told plan answer lanes lanes' trace trace' same h = subst (λ (t : Option (List ℕ)). StopsTrace plan t answer lanes lanes') same h
