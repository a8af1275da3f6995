-- What a failed read leaves of the lanes of a drill.
use Rattle.std.proofs.Common.{◌≡◌, inl, inr, ℕ, ◌≤◌, ◌^◌, Option, None, Some, IfSome, List, [], ◌∷◌, ◌++◌, length, take, refl, sym, ap, ◌∙◌, subst, arith, append_assoc, append-nil, length-append}
use Rattle.std.proofs.lemmas.List.{take_at}
use Rattle.fg_io.specs.Outlet.{Lanes}
use Rattle.fg_shape.specs.declared.encoding.Losses.{Losses}
use Rattle.fg_shape.specs.declared.encoding.Settings.{Settings}
use Rattle.fg_shape.specs.Settings.{CanEncode}
use Rattle.fg_trace.specs.declared.step.Finish.TheVariants as finish
use Rattle.fg_trace.specs.Laws.{OneTrace}
use Rattle.fg_trace.specs.Reading.{IsReadFor}
use Rattle.fg_trace.specs.Trace.{Record, Begins, Ended, IsLongest, IsTrace, trace_of}
use Rattle.fg_trace.proofs.Fronts.{traces}
use Rattle.fg_flows.specs.declared.Plan.{Plan}
use Rattle.fg_encode.specs.Stream.{StreamEnding, IsCut}
use Rattle.fg_results.specs.Repair.{AreResults, Outputs}
use Rattle.fg_results.specs.Stops.{LanesShow, StandsAtRead}
use Rattle.fg_thin.specs.PayloadLaws.{CutPayloads}
use Rattle.fg_thin.specs.ThinnedSource.{thinned_trace}
use Rattle.fg_thin.specs.TraceLaws.{StreamIsTrace}
use Rattle.fg_drill.specs.Drill.{LeavesAtRead, none_made, first_shown, all_whole, records_sent}
use Rattle.fg_drill.specs.DrillLaws.{trace_sent}
use Rattle.fg_drill.specs.DrillSteps.{LeavesTrace}
use Rattle.fg_drill.proofs.Drills.{sent_trace}

-- records that stand at the front of a part of the bytes stand at the front of all
begins_longer : (bytes read rest : List ℕ) (max : ℕ) (records : List Record) → bytes ≡ read ++ rest → Begins read max records → Begins bytes max records
begins_longer bytes read rest max records e h = record {
  fit = h.fit;
  within = h.within;
  rest = h.rest ++ rest;
  spelled = e ∙ ap (λ t. t ++ rest) h.spelled ∙ append_assoc (trace_of records) h.rest rest;
}

none_more : (records all tail : List Record) → records ≡ all ++ tail → length records ≤ length all → records ≡ take (length records) all
none_more records all [] e few =
    let same : all ≡ records = sym (e ∙ append-nil all) in
    let whole : take (length records) records ≡ records = ap (take (length records)) (sym (append-nil records)) ∙ take_at records [] (length records) refl in
    sym whole ∙ ap (take (length records)) (sym same)
none_more records all (r ∷ tail) e few = absurd (omega (arith, few, ap length e, length-append all (r ∷ tail)))

-- and they are the first of all
first_records : (bytes : List ℕ) (max : ℕ) (records all : List Record) → Begins bytes max records → IsLongest bytes max all → records ≡ take (length records) all
first_records bytes max records all b h = elim (traces bytes max max records all b h.begins) [
  | inl w ↦ none_more records all w.0 w.1 (h.most records b)
  | inr w ↦ sym (ap (take (length records)) w.2 ∙ take_at records (w.0 ∷ w.1) (length records) refl)
]

-- a read that failed while the trace was repaired
stood : (plan : Plan) (bytes : List ℕ) (now : Option (List ℕ)) (lanes lanes' : Option Lanes) → StandsAtRead plan bytes now lanes lanes'
    → IsReadFor plan.max finish.ReadFault bytes now → (all : List Record) → IsTrace bytes plan.max all Ended → LeavesAtRead plan all lanes lanes'
stood plan bytes now lanes lanes' h read all is = elim (h read.read read.rest read.now_is read.all) [
  | inl short ↦ none_made short.1
  | inr w ↦ first_shown (length w.0) (subst (λ (rs : List Record). LanesShow plan rs lanes lanes')
      (first_records bytes plan.max w.0 all (begins_longer bytes read.read read.rest plan.max w.0 read.all w.1.begins) is.1) w.2)
]

pub failed_leaves : (plan : Plan) (trace now : Option (List ℕ)) (lanes lanes' : Option Lanes) → IfSome trace (λ bytes. StandsAtRead plan bytes now lanes lanes')
    → IfSome trace (λ bytes. IsReadFor plan.max finish.ReadFault bytes now) → LeavesTrace plan trace lanes lanes'
failed_leaves plan None now lanes lanes' h read = tt
failed_leaves plan (Some bytes) now lanes lanes' h read = stood plan bytes now lanes lanes' h read

-- and one behind it
pub whole_leaves : OneTrace → (plan : Plan) (trace : Option (List ℕ)) (lanes lanes' : Option Lanes) (written written' : Option (List ℕ))
    → Outputs plan Ended trace lanes lanes' written written' → LeavesTrace plan trace lanes lanes'
whole_leaves one plan None lanes lanes' written written' h = tt
whole_leaves one plan (Some bytes) lanes lanes' written written' h = λ records is.
    let same = one bytes plan.max h.records records Ended Ended h.of_input is in
    all_whole h.results (subst (λ rs. AreResults plan rs h.results) same.0 h.are_results) h.gain.0

-- what is repaired is what is sent of the stream
pub leaves_as_told : (plan : Plan) (lanes lanes' : Option Lanes) (trace trace' : Option (List ℕ)) → trace ≡ trace' → LeavesTrace plan trace lanes lanes' → LeavesTrace plan trace' lanes lanes'
leaves_as_told plan lanes lanes' trace trace' same h = subst (λ (t : Option (List ℕ)). LeavesTrace plan t lanes lanes') same h

pub drill_leaves : StreamIsTrace → CutPayloads → (settings : Settings) (plan : Plan) (losses : Losses) (max : ℕ) (input : Option (List ℕ)) (lanes lanes' : Option Lanes)
    → CanEncode settings → plan.max ≡ 2 ^ 42 → max ≤ 2 ^ 40 → LeavesTrace plan (trace_sent settings losses max input) lanes lanes'
    → IfSome input (λ bytes. (payloads : List (List ℕ)) (end : StreamEnding) → IsCut settings.packets max bytes payloads end → LeavesAtRead plan (records_sent settings losses payloads) lanes lanes')
drill_leaves law cuts settings plan losses max None lanes lanes' can inner limit h = tt
drill_leaves law cuts settings plan losses max (Some bytes) lanes lanes' can inner limit h = λ payloads end cut.
    let same = cuts settings.packets max bytes payloads end can.packets.0 cut in
    h (records_sent settings losses payloads)
    (subst (λ ps. IsTrace (thinned_trace settings losses max bytes) plan.max (records_sent settings losses ps) Ended) same (sent_trace law settings plan losses max bytes can inner limit))
