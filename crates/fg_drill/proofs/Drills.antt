-- What a drill comes to, from what the repair of its trace does.
use Rattle.std.proofs.Common.{◌≡◌, ◌⊎◌, inl, inr, ℕ, ◌≤◌, ◌^◌, Option, None, Some, IfSome, Ok, List, refl, sym, ap, ◌∙◌, subst}
use Rattle.std.specs.Option.{option_map}
use Rattle.fg_io.specs.Laws.{AllIsPart}
use Rattle.fg_io.specs.Outlet.{Lanes, WhereTold}
use Rattle.fg_io.specs.Sink.{GainsPart}
use Rattle.fg_shape.specs.declared.encoding.Losses.{Losses}
use Rattle.fg_shape.specs.declared.encoding.Settings.{Settings}
use Rattle.fg_trace.specs.declared.step.Finish.{Finish}
use Rattle.fg_trace.specs.declared.step.Finish.TheVariants as finish
use Rattle.fg_trace.specs.Finish.{finish_of, IsFault as IsFinishFault}
use Rattle.fg_trace.specs.Laws.{OneTrace}
use Rattle.fg_trace.specs.Trace.{Record, Ending, Ended, NotTrace, Cut, TooLong, IsTrace}
use Rattle.fg_flows.specs.declared.Plan.{Plan}
use Rattle.fg_shape.specs.Settings.{CanEncode}
use Rattle.fg_encode.specs.Stream.{StreamEnding, IsCut, OneCut}
use Rattle.fg_results.specs.Flow.{FlowResult}
use Rattle.fg_results.specs.Lanes.{OthersStay, PutsAll, PutsAllPart}
use Rattle.fg_results.specs.Laws.{OneResult}
use Rattle.fg_results.specs.Repair.{AreResults, Gain, Outputs, OutputsPart, Finishes, lanes_of, report_text}
use Rattle.fg_drill.specs.Drill.{Answer, DrillsPart, IsFault, IsPassedOn, answer_to, records_sent}
use Rattle.fg_thin.specs.PayloadLaws.{CutPayloads}
use Rattle.fg_thin.specs.Payloads.{payloads_of}
use Rattle.fg_thin.specs.ThinnedSource.{EndsFor, ThinnedFixed, thinned_trace}
use Rattle.fg_thin.specs.TraceLaws.{StreamIsTrace}
use Rattle.fg_drill.specs.DrillLaws.{DrillsAreExact, RepairsAreDrills, trace_sent}
use Rattle.fg_drill.specs.DrillSteps.{DrillsTrace, FollowsTrace, IsEndingsAnswer}

-- The stream's ending

pub ends_answer : (ending : StreamEnding) (packets max : ℕ) (stream : Option (List ℕ)) → IfSome stream (λ bytes. EndsFor ending packets max bytes)
    → IsEndingsAnswer packets max stream (answer_to ending)
ends_answer ending packets max None h = (ending, refl, tt)
ends_answer ending packets max (Some bytes) h = (ending, refl, h)

-- The trace's ending

-- a repair that was done ended with the trace
ended_of : (end : Ending) → finish.Done ≡ finish_of end → end ≡ Ended
ended_of Ended e = refl
ended_of (NotTrace n) e = absurd (let a = e in cc)
ended_of (Cut n) e = absurd (let a = e in cc)
ended_of (TooLong n) e = absurd (let a = e in cc)

pub done_outputs : (plan : Plan) (trace : Option (List ℕ)) (lanes lanes' : Option Lanes) (written written' : Option (List ℕ))
    → IsFinishFault finish.Done ⊎ Finishes plan finish.Done trace lanes lanes' written written' → Outputs plan Ended trace lanes lanes' written written'
done_outputs plan trace lanes lanes' written written' (inl fault) = absurd fault
done_outputs plan trace lanes lanes' written written' (inr h) = subst (λ end. Outputs plan end trace lanes lanes' written written') (ended_of h.0 h.1) h.2

-- after it the answer is the stream's
pub done_drills : (plan : Plan) (packets max : ℕ) (stream trace : Option (List ℕ)) (answer : Answer) (lanes lanes' : Option Lanes) (written written' : Option (List ℕ))
    → Outputs plan Ended trace lanes lanes' written written' → (answer ≡ Ok finish.ReadFault) ⊎ IsEndingsAnswer packets max stream answer
    → IsFault answer ⊎ DrillsTrace plan packets max stream trace answer lanes lanes' written written'
done_drills plan packets max stream trace answer lanes lanes' written written' whole (inl fault) = inl (subst IsFault (sym fault) tt)
done_drills plan packets max stream trace answer lanes lanes' written written' whole (inr ends) = inr (Ended, whole, ends)

-- another answer is passed on
passed : (end : Ending) (packets max : ℕ) (stream : Option (List ℕ)) → (finish.Done ≡ finish_of end → ⊥) → FollowsTrace end packets max stream (Ok (finish_of end))
passed Ended packets max stream other = absurd (other refl)
passed (NotTrace n) packets max stream other = refl
passed (Cut n) packets max stream other = refl
passed (TooLong n) packets max stream other = refl

pub other_drills : (plan : Plan) (packets max : ℕ) (stream trace : Option (List ℕ)) (answer : Finish) (lanes lanes' : Option Lanes) (written written' : Option (List ℕ))
    → (finish.Done ≡ answer → ⊥) → IsFinishFault answer ⊎ Finishes plan answer trace lanes lanes' written written'
    → IsFault (Ok answer) ⊎ DrillsTrace plan packets max stream trace (Ok answer) lanes lanes' written written'
other_drills plan packets max stream trace answer lanes lanes' written written' other (inl fault) = inl fault
other_drills plan packets max stream trace answer lanes lanes' written written' other (inr h) =
    inr (h.0, h.2, subst (λ f. FollowsTrace h.0 packets max stream (Ok f)) (sym h.1) (passed h.0 packets max stream (λ e. other (e ∙ sym h.1))))

-- the source goes on with the same stream
pub same_ending : {F : Type 0} (old new : ThinnedFixed F) (answer : Answer) → new ≡ old → (answer ≡ Ok finish.ReadFault) ⊎ IsEndingsAnswer new.settings.packets new.max new.stream answer
    → (answer ≡ Ok finish.ReadFault) ⊎ IsEndingsAnswer old.settings.packets old.max old.stream answer
same_ending {F} old new answer same h = subst (λ (f : ThinnedFixed F). (answer ≡ Ok finish.ReadFault) ⊎ IsEndingsAnswer f.settings.packets f.max f.stream answer) same h

-- Parts

others_of_all : (ports : List ℕ) (pieces : List (List ℕ)) (lanes lanes' : Option Lanes) → PutsAll lanes ports pieces lanes' → WhereTold (OthersStay ports) lanes lanes'
others_of_all ports pieces None None h = tt
others_of_all ports pieces None (Some after) h = h
others_of_all ports pieces (Some before) None h = h
others_of_all ports pieces (Some before) (Some after) h = h.others

front_of_whole : {K : Type 0} → OneTrace → OneResult → AllIsPart → (plan : Plan) (trace : Option (List ℕ)) (lanes lanes' : Option Lanes) (written : K → Option (List ℕ)) (out out' : K)
    → Outputs plan Ended trace lanes lanes' (written out) (written out')
    → IfSome trace (λ bytes. (records : List Record) (results : List FlowResult) (end : Ending)
    → IsTrace bytes plan.max records end → AreResults plan records results
    → (PutsAllPart lanes plan.table (lanes_of results) lanes' × (out' ≡ out))
    ⊎ (PutsAll lanes plan.table (lanes_of results) lanes' × GainsPart (written out) (report_text plan records results end) (written out')))
front_of_whole one same all plan None lanes lanes' written out out' h = tt
front_of_whole one same all plan (Some bytes) lanes lanes' written out out' h = λ records results end is are.
    let traces = one bytes plan.max h.records records Ended end h.of_input is in
    let equal = same plan bytes h.records records Ended end h.results results h.of_input is h.are_results are in
    inr (
      subst (λ rs. PutsAll lanes plan.table (lanes_of rs) lanes') equal h.gain.0,
      subst (λ e. GainsPart (written out) (report_text plan records results e) (written out')) traces.1
          (subst (λ rs. GainsPart (written out) (report_text plan rs results Ended) (written out')) traces.0
          (subst (λ rs. GainsPart (written out) (report_text plan h.records rs Ended) (written out')) equal
          (all (written out) (written out') (report_text plan h.records h.results Ended) h.gain.1))),
    )

pub part_of_whole : {K : Type 0} → OneTrace → OneResult → AllIsPart → (plan : Plan) (trace : Option (List ℕ)) (lanes lanes' : Option Lanes) (written : K → Option (List ℕ)) (out out' : K)
    → Outputs plan Ended trace lanes lanes' (written out) (written out') → OutputsPart plan trace lanes lanes' written out out'
part_of_whole one same all plan trace lanes lanes' written out out' h = record {
  others = others_of_all plan.table (lanes_of h.results) lanes lanes' h.gain.0;
  front = front_of_whole one same all plan trace lanes lanes' written out out' h;
}

-- The stream

-- the trace of what is sent of a stream
pub sent_trace : StreamIsTrace → (settings : Settings) (plan : Plan) (losses : Losses) (max : ℕ) (bytes : List ℕ) → CanEncode settings → plan.max ≡ 2 ^ 42 → max ≤ 2 ^ 40
    → IsTrace (thinned_trace settings losses max bytes) plan.max (records_sent settings losses (payloads_of settings.packets max bytes)) Ended
sent_trace law settings plan losses max bytes can inner limit =
    subst (λ n. IsTrace (thinned_trace settings losses max bytes) n (records_sent settings losses (payloads_of settings.packets max bytes)) Ended) (sym inner) (law settings losses max bytes can limit)

-- what is known of a trace
pub record HasGained (plan : Plan) (records : List Record) (end : Ending) (lanes lanes' : Option Lanes) (written written' : Option (List ℕ)) : Type 0 where
  pub ended : end ≡ Ended
  pub results : List FlowResult
  pub are_results : AreResults plan records results
  pub gain : Gain plan records results Ended lanes lanes' written written'

pub gained : OneTrace → (plan : Plan) (bytes : List ℕ) (records : List Record) (end : Ending) (lanes lanes' : Option Lanes) (written written' : Option (List ℕ))
    → IsTrace bytes plan.max records Ended → Outputs plan end (Some bytes) lanes lanes' written written' → HasGained plan records end lanes lanes' written written'
gained one plan bytes records end lanes lanes' written written' is h =
    let same = one bytes plan.max h.records records end Ended h.of_input is in record {
      ended = same.1;
      results = h.results;
      are_results = subst (λ rs. AreResults plan rs h.results) same.0 h.are_results;
      gain = subst (λ e. Gain plan records h.results e lanes lanes' written written') same.1
          (subst (λ rs. Gain plan rs h.results end lanes lanes' written written') same.0 h.gain);
    }

-- what a fault leaves of one trace it leaves of the same
pub part_as_told : {K : Type 0} (plan : Plan) (lanes lanes' : Option Lanes) (written : K → Option (List ℕ)) (out out' : K) (trace trace' : Option (List ℕ))
    → trace ≡ trace' → OutputsPart plan trace lanes lanes' written out out' → OutputsPart plan trace' lanes lanes' written out out'
part_as_told plan lanes lanes' written out out' trace trace' same h = subst (λ (t : Option (List ℕ)). OutputsPart plan t lanes lanes' written out out') same h

-- what is repaired is what is sent of the input
pub as_told : (plan : Plan) (answer : Answer) (lanes lanes' : Option Lanes) (written written' : Option (List ℕ)) (packets packets' max max' : ℕ) (stream stream' trace trace' : Option (List ℕ))
    → packets ≡ packets' → max ≡ max' → stream ≡ stream' → trace ≡ trace'
    → IsFault answer ⊎ DrillsTrace plan packets max stream trace answer lanes lanes' written written'
    → IsFault answer ⊎ DrillsTrace plan packets' max' stream' trace' answer lanes lanes' written written'
as_told plan answer lanes lanes' written written' packets packets' max max' stream stream' trace trace' a b c d h =
    subst (λ p. IsFault answer ⊎ DrillsTrace plan p max' stream' trace' answer lanes lanes' written written') a
    (subst (λ m. IsFault answer ⊎ DrillsTrace plan packets m stream' trace' answer lanes lanes' written written') b
    (subst (λ s. IsFault answer ⊎ DrillsTrace plan packets max s trace' answer lanes lanes' written written') c
    (subst (λ t. IsFault answer ⊎ DrillsTrace plan packets max stream t answer lanes lanes' written written') d h)))

untold : (end : Ending) (packets max : ℕ) (answer : Answer) → FollowsTrace end packets max None answer → IsPassedOn end answer
untold Ended packets max answer h = (h.0, h.1)
untold (NotTrace n) packets max answer h = h
untold (Cut n) packets max answer h = h
untold (TooLong n) packets max answer h = h

pub drills : OneTrace → StreamIsTrace → RepairsAreDrills
drills one law settings plan losses max answer input lanes lanes' written written' can inner limit (inl fault) = inl fault
drills one law settings plan losses max answer None lanes lanes' written written' can inner limit (inr h) = inr (h.0, untold h.0 settings.packets max answer h.2, h.1)
drills one law settings plan losses max answer (Some bytes) lanes lanes' written written' can inner limit (inr h) =
    let payloads = payloads_of settings.packets max bytes in
    let has = gained one plan (thinned_trace settings losses max bytes) (records_sent settings losses payloads) h.0 lanes lanes' written written'
    (sent_trace law settings plan losses max bytes can inner limit) h.1 in
    let follows : IsEndingsAnswer settings.packets max (Some bytes) answer = subst (λ e. FollowsTrace e settings.packets max (Some bytes) answer) has.ended h.2 in
    inr record {
      payloads = payloads;
      end = follows.0;
      results = has.results;
      cut = follows.2;
      answer_is = follows.1;
      are_results = has.are_results;
      gain = has.gain;
    }

pub drills_exactly : OneCut → DrillsAreExact
drills_exactly one settings plan losses max answer None lanes lanes' written written' h = tt
drills_exactly one settings plan losses max answer (Some bytes) lanes lanes' written written' (inl fault) = λ payloads end k. inl fault
drills_exactly one settings plan losses max answer (Some bytes) lanes lanes' written written' (inr h) = λ payloads end k.
    let same = one settings.packets max bytes h.payloads payloads h.end end h.cut k in
    inr (h.answer_is ∙ ap answer_to same.1)

front_of_stream : {K : Type 0} → StreamIsTrace → CutPayloads → (settings : Settings) (plan : Plan) (losses : Losses) (max : ℕ) (input : Option (List ℕ)) (lanes lanes' : Option Lanes) (written : K → Option (List ℕ)) (out out' : K)
    → CanEncode settings → plan.max ≡ 2 ^ 42 → max ≤ 2 ^ 40
    → OutputsPart plan (option_map (λ bytes. thinned_trace settings losses max bytes) input) lanes lanes' written out out'
    → IfSome input (λ bytes. (payloads : List (List ℕ)) (end : StreamEnding) (results : List FlowResult)
    → IsCut settings.packets max bytes payloads end → AreResults plan (records_sent settings losses payloads) results
    → (PutsAllPart lanes plan.table (lanes_of results) lanes' × (out' ≡ out))
    ⊎ (PutsAll lanes plan.table (lanes_of results) lanes'
    × GainsPart (written out) (report_text plan (records_sent settings losses payloads) results Ended) (written out')))
front_of_stream law cuts settings plan losses max None lanes lanes' written out out' can inner limit h = tt
front_of_stream law cuts settings plan losses max (Some bytes) lanes lanes' written out out' can inner limit h = λ payloads end results cut are.
    let same = cuts settings.packets max bytes payloads end can.packets.0 cut in
    h.front (records_sent settings losses payloads) results Ended
    (subst (λ ps. IsTrace (thinned_trace settings losses max bytes) plan.max (records_sent settings losses ps) Ended) same (sent_trace law settings plan losses max bytes can inner limit)) are

pub drills_part : {K : Type 0} → StreamIsTrace → CutPayloads → (settings : Settings) (plan : Plan) (losses : Losses) (max : ℕ) (input : Option (List ℕ)) (lanes lanes' : Option Lanes) (written : K → Option (List ℕ)) (out out' : K)
    → CanEncode settings → plan.max ≡ 2 ^ 42 → max ≤ 2 ^ 40
    → OutputsPart plan (trace_sent settings losses max input) lanes lanes' written out out'
    → DrillsPart settings plan losses max input lanes lanes' written out out'
drills_part law cuts settings plan losses max input lanes lanes' written out out' can inner limit h = record {
  others = h.others;
  front = front_of_stream law cuts settings plan losses max input lanes lanes' written out out' can inner limit h;
}
