-- How a repair ends: what it answers, and what lanes and sink have gained then.
use Rattle.std.proofs.Common.{◌≡◌, ◌≤◌, ℕ, Option, IfSome, Result, Ok, Err, IfErr, List, [], refl, sym, ap, ◌∙◌, subst}
use Rattle.std.specs.Result.{IsErr}
use Rattle.fg_flows.specs.declared.Plan.{Plan}
use Rattle.fg_flows.specs.Plan.{PlanFits}
use Rattle.fg_results.specs.Flow.{FlowResult}
use Rattle.fg_report.specs.declared.tail.Tail.{Tail}
use Rattle.fg_report.specs.Text.{report_of}
use Rattle.fg_trace.specs.declared.step.Finish.{Finish}
use Rattle.fg_trace.specs.declared.step.Finish.TheVariants as finish
use Rattle.fg_trace.specs.Finish.{IsFault, finish_of, finish_after}
use Rattle.fg_trace.specs.Reading.{IsReadFor}
use Rattle.fg_trace.specs.Laws.{OneTrace}
use Rattle.fg_trace.specs.Trace.{Record, Ending, Ended, NotTrace, Cut, TooLong, IsTrace}
use Rattle.fg_io.specs.Outlet.{Lanes}
use Rattle.fg_io.specs.Sink.{Gains, GainsPart}
use Rattle.fg_engine.specs.declared.engine.Engine.{Engine}
use Rattle.fg_results.specs.Contract.{IsRepair}
use Rattle.fg_results.specs.Existence.{ResultsExist}
use Rattle.fg_results.specs.Laws.{OneFlowResult, StopsLeaveParts}
use Rattle.fg_engine.specs.Engine.{LanesStop, LanesWhole, StandsAtFault, TellsTail, sums_of, told_finish, answer_of}
use Rattle.fg_results.specs.Lanes.{PutsAll}
use Rattle.fg_results.specs.Stops.{Growth}
use Rattle.fg_results.specs.Repair.{Gain, Finishes, lanes_of, tail_of, report_text}
use Rattle.fg_io.specs.declared.fault.Fault.{Fault}
use Rattle.fg_io.specs.declared.fault.Fault.TheVariants.{Read, Write, Memory}
use Rattle.fg_results.proofs.RepairLemmas.{PutsPartOfReport, stopped_repair, stopped_report}
use Rattle.fg_results.proofs.CountLemmas.{read_only}
use Rattle.fg_engine.proofs.Reaching.{none_made}
use Rattle.fg_engine.proofs.Writing.{none_stops}

-- The report

told_is : (end : Ending) (told : Tail) → TellsTail end told → told ≡ tail_of end
told_is Ended told h = h
told_is (NotTrace n) told h = absurd h
told_is (Cut n) told h = h
told_is (TooLong n) told h = h

-- the text that is written is the report of the trace
text_is :
    {D : Type 0} → (plan : Plan) (first : Option (List ℕ)) (engine : Engine D) (told : Tail) (before after : Option Lanes) (h : LanesWhole plan first engine told before after)
    → report_of (sums_of engine.flows.items) engine.other told ≡ report_text plan h.records h.ended.results h.end
text_is plan first engine told before after h = λ i. report_of (sym h.ended.sums i) (h.other i) (told_is h.end told h.tells i)

-- a part of it was written
part_of_report :
    {D : Type 0} → (plan : Plan) (first : Option (List ℕ)) (engine : Engine D) (told : Tail) (before after : Option Lanes) (written written' : Option (List ℕ))
    → LanesWhole plan first engine told before after → GainsPart written (report_of (sums_of engine.flows.items) engine.other told) written'
    → PutsPartOfReport plan first before after written written'
part_of_report plan first engine told before after written written' h part = record {
  records = h.records;
  results = h.ended.results;
  end = h.end;
  of_input = h.of_input;
  are_results = h.ended.are_results;
  puts = h.ended.puts;
  part = subst (λ (text : List ℕ). GainsPart written text written') (text_is plan first engine told before after h) part;
}

-- The answer

-- It is that of the trace's ending.
finish_is : (end : Ending) (told : Tail) → TellsTail end told → told_finish told ≡ finish_of end
finish_is Ended told h = ap told_finish h
finish_is (NotTrace n) told h = absurd h
finish_is (Cut n) told h = ap told_finish h
finish_is (TooLong n) told h = ap told_finish h

gain_is :
    (plan : Plan) (records : List Record) (results : List FlowResult) (end : Ending) (told : Tail) (lanes lanes' : Option Lanes) (written written' : Option (List ℕ))
    → TellsTail end told → PutsAll lanes plan.table (lanes_of results) lanes' → Gains written (report_text plan records results end) written'
    → Gain plan records results end lanes lanes' written written'
gain_is plan records results Ended told lanes lanes' written written' h puts gains = (puts, gains)
gain_is plan records results (NotTrace n) told lanes lanes' written written' h puts gains = absurd h
gain_is plan records results (Cut n) told lanes lanes' written written' h puts gains = (puts, gains)
gain_is plan records results (TooLong n) told lanes lanes' written written' h puts gains = (puts, gains)

-- Lanes and report are whole.
pub finished :
    {D : Type 0} → (plan : Plan) (first : Option (List ℕ)) (engine : Engine D) (told : Tail) (answer : Finish) (lanes lanes' : Option Lanes) (written written' : Option (List ℕ))
    → LanesWhole plan first engine told lanes lanes' → answer ≡ told_finish told
    → Gains written (report_of (sums_of engine.flows.items) engine.other told) written' → Finishes plan answer first lanes lanes' written written'
finished plan first engine told answer lanes lanes' written written' h is gains = (
  h.end,
  is ∙ finish_is h.end told h.tells,
  record {
    records = h.records;
    results = h.ended.results;
    of_input = h.of_input;
    are_results = h.ended.are_results;
    gain = gain_is plan h.records h.ended.results h.end told lanes lanes' written written' h.tells h.ended.puts
        (subst (λ (text : List ℕ). Gains written text written') (text_is plan first engine told lanes lanes' h) gains);
  },
)

-- No flow has a record, and each has its result.
pub not_trace : ResultsExist → (plan : Plan) → 1 ≤ plan.window → (first : Option (List ℕ)) (max : ℕ) (lanes : Option Lanes) (written : Option (List ℕ)) (place : ℕ) → max ≡ plan.max → IfSome first (λ bytes. IsTrace bytes max [] (NotTrace place)) → Finishes plan (finish.NotTrace place) first lanes lanes written written
not_trace law plan some first max lanes written place same h = (
  NotTrace place,
  refl,
  record {
    records = [];
    results = (law plan [] some).0;
    of_input = subst (λ n. IfSome first (λ bytes. IsTrace bytes n [] (NotTrace place))) same h;
    are_results = (law plan [] some).1;
    gain = (refl, refl);
  },
)

-- A fault is answered

fault_is : (fault : Fault) → IsFault (finish_after fault)
fault_is Read = tt
fault_is Write = tt
fault_is Memory = tt

-- Before the report was begun.
pub stopped :
    {O K : Type 0} → StopsLeaveParts → (growth : Growth) (plan : Plan) → PlanFits plan → (result : Result Finish Fault) → IsErr result
    → (first left : Option (List ℕ)) (told : O → Option Lanes) (lanes lanes' : O) (written : K → Option (List ℕ)) (out : K)
    → IfSome first (λ bytes. IsReadFor plan.max (answer_of result) bytes left)
    → IfSome first (λ bytes. (place : ℕ) → IsTrace bytes plan.max [] (NotTrace place) → (lanes' ≡ lanes) × (out ≡ out))
    → IfErr result (λ fault. LanesStop growth plan (finish_after fault) first (told lanes) (told lanes'))
    → IfErr result (λ fault. StandsAtFault plan fault first left (told lanes) (told lanes'))
    → IsRepair growth plan (answer_of result) first left told lanes lanes' written out out
stopped law growth plan fits (Ok x) is first left told lanes lanes' written out reads refused h at_read = absurd cc
stopped law growth plan fits (Err fault) is first left told lanes lanes' written out reads refused h at_read =
    stopped_repair growth plan (finish_after fault) first left told lanes lanes' written out out reads refused law fits.playout.window.0
    (fault_is fault) h.others refl h.stops (λ read. at_read (read_only fault read))

-- Before any lane was made.
pub stopped_first :
    {O K : Type 0} → StopsLeaveParts → (growth : Growth) (plan : Plan) → PlanFits plan → (result : Result Finish Fault) → IsErr result
    → (first left : Option (List ℕ)) (told : O → Option Lanes) (lanes : O) (written : K → Option (List ℕ)) (out : K)
    → IfSome first (λ bytes. IsReadFor plan.max (answer_of result) bytes left)
    → IfErr result (λ fault. StandsAtFault plan fault first left (told lanes) (told lanes))
    → IsRepair growth plan (answer_of result) first left told lanes lanes written out out
stopped_first law growth plan fits (Ok x) is first left told lanes written out reads at_read = absurd cc
stopped_first law growth plan fits (Err fault) is first left told lanes written out reads at_read =
    stopped law growth plan fits (Err fault) is first left told lanes lanes written out reads (none_made plan.max first lanes out)
    (none_stops growth plan (finish_after fault) first (told lanes)) at_read

-- While the report was written.
pub stopped_in_report :
    {O K D : Type 0} → OneTrace → OneFlowResult → (growth : Growth) (plan : Plan) (result : Result Finish Fault) → IsErr result → (result ≡ Err Read → ⊥)
    → (first left : Option (List ℕ)) (told : O → Option Lanes) (lanes lanes' : O) (written : K → Option (List ℕ)) (out out' : K)
    → IfSome first (λ bytes. IsReadFor plan.max (answer_of result) bytes left)
    → IfSome first (λ bytes. (place : ℕ) → IsTrace bytes plan.max [] (NotTrace place) → (lanes' ≡ lanes) × (out' ≡ out))
    → (engine : Engine D) (tail : Tail) → LanesWhole plan first engine tail (told lanes) (told lanes')
    → GainsPart (written out) (report_of (sums_of engine.flows.items) engine.other tail) (written out')
    → IsRepair growth plan (answer_of result) first left told lanes lanes' written out out'
stopped_in_report law one growth plan (Ok x) is unread first left told lanes lanes' written out out' reads refused engine tail h part = absurd cc
stopped_in_report law one growth plan (Err fault) is unread first left told lanes lanes' written out out' reads refused engine tail h part =
    stopped_report growth plan (finish_after fault) first left told lanes lanes' written out out' reads refused law one
    (fault_is fault) (λ read. unread (ap Err (read_only fault read)))
    (part_of_report plan first engine tail (told lanes) (told lanes') (written out) (written out') h part)
