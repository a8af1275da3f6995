-- When a call is a repair: where it answers an ending with whole outputs, and where it answers a fault, as its lanes stopped.
-- The parts that a fault leaves follow from where the lanes stopped.
use Rattle.std.proofs.Common.{◌≡◌, ◌≤◌, ◌⊎◌, inl, inr, ℕ, Option, Some, None, IfSome, List, [], sym, ap, ◌∙◌, subst}
use Rattle.std.specs.Io.KnownBytes.{IsAtEnd}
use Rattle.fg_io.specs.Outlet.{Lanes, WhereTold}
use Rattle.fg_io.specs.Sink.{GainsPart}
use Rattle.fg_trace.specs.declared.step.Finish.{Finish}
use Rattle.fg_trace.specs.declared.step.Finish.TheVariants as finish
use Rattle.fg_trace.specs.Finish.{IsFault, ReadsAll, finish_of}
use Rattle.fg_trace.specs.Laws.{OneTrace}
use Rattle.fg_trace.specs.Reading.{IsReadFor}
use Rattle.fg_trace.specs.Trace.{Record, Ending, Ended, NotTrace, Cut, TooLong, IsTrace}
use Rattle.fg_flows.specs.declared.Plan.{Plan}
use Rattle.fg_flows.specs.Plan.{playout_of}
use Rattle.fg_results.specs.Contract.{IsRepair}
use Rattle.fg_results.specs.Flow.{FlowResult}
use Rattle.fg_results.specs.Lanes.{OthersStay, PutsAll}
use Rattle.fg_results.specs.Laws.{OneFlowResult, StopsLeaveParts}
use Rattle.fg_results.specs.Repair.{AreResults, Finishes, OutputsPart, lanes_of as lanes_of_results, report_text}
use Rattle.fg_results.specs.Stops.{Growth, StandsAtRead, Stops, StopsIn}
use Rattle.fg_results.proofs.Fronts.{one_of_each}
use Rattle.fg_results.proofs.StopLemmas.{stops_whole}

no_fault : (end : Ending) → IsFault (finish_of end) → ⊥
no_fault Ended fault = absurd fault
no_fault (NotTrace n) fault = absurd fault
no_fault (Cut n) fault = absurd fault
no_fault (TooLong n) fault = absurd fault

not_all_read : (answer : Finish) → IsFault answer → ReadsAll answer → ⊥
not_all_read finish.ReadFault fault all = absurd all
not_all_read finish.WriteFault fault all = absurd all
not_all_read finish.Memory fault all = absurd all
not_all_read finish.Done fault all = absurd fault
not_all_read (finish.NotTrace n) fault all = absurd fault
not_all_read (finish.Cut n) fault all = absurd fault
not_all_read (finish.TooLong n) fault all = absurd fault

-- The answer of any ending of the input.
abbrev pub AnswersAny : Plan → Finish → Option (List ℕ) → Type 0
AnswersAny plan answer input =
    IfSome input (λ bytes. (records : List Record) (end : Ending) → IsTrace bytes plan.max records end → IsFault answer ⊎ (answer ≡ finish_of end))

answers_whole :
    OneTrace → (plan : Plan) (answer : Finish) (input : Option (List ℕ)) (records : List Record) (end : Ending)
    → IfSome input (λ bytes. IsTrace bytes plan.max records end) → answer ≡ finish_of end → AnswersAny plan answer input
answers_whole law plan answer None records end trace is = tt
answers_whole law plan answer (Some bytes) records end trace is = λ others end' trace'.
    inr (is ∙ ap finish_of (law bytes plan.max records others end end' trace trace').1)

answers_fault : (plan : Plan) (answer : Finish) (input : Option (List ℕ)) → IsFault answer → AnswersAny plan answer input
answers_fault plan answer None fault = tt
answers_fault plan answer (Some bytes) fault = λ records end trace. inl fault

-- Before the report was begun, the lanes have gained parts.
parts_before :
    {K : Type 0} → StopsLeaveParts → (growth : Growth) (plan : Plan) (answer : Finish) (input : Option (List ℕ)) (lanes lanes' : Option Lanes)
    (written : K → Option (List ℕ)) (out out' : K) → 1 ≤ plan.window → WhereTold (OthersStay plan.table) lanes lanes'
    → out' ≡ out → StopsIn growth plan answer input lanes lanes' → OutputsPart plan input lanes lanes' written out out'
parts_before law growth plan answer None lanes lanes' written out out' some others quiet stops = record { others = others; front = tt }
parts_before law growth plan answer (Some bytes) lanes lanes' written out out' some others quiet stops = record {
  others = others;
  front = λ records results end trace are.
      inl (law growth plan answer records results lanes lanes' some are (stops records end trace), quiet);
}

-- All lanes are whole, and the sink has gained a prefix of the report.
pub record PutsPartOfReport
    (plan : Plan) (input : Option (List ℕ)) (lanes lanes' : Option Lanes) (written written' : Option (List ℕ)) : Type 0 where
  pub records : List Record
  pub results : List FlowResult
  pub end : Ending
  pub of_input : IfSome input (λ bytes. IsTrace bytes plan.max records end)
  pub are_results : AreResults plan records results
  pub puts : PutsAll lanes plan.table (lanes_of_results results) lanes'
  pub part : GainsPart written (report_text plan records results end) written'

others_of_puts :
    (ports : List ℕ) (pieces : List (List ℕ)) (lanes lanes' : Option Lanes) → PutsAll lanes ports pieces lanes'
    → WhereTold (OthersStay ports) lanes lanes'
others_of_puts ports pieces None None puts = tt
others_of_puts ports pieces None (Some new) puts = absurd puts
others_of_puts ports pieces (Some old) None puts = absurd puts
others_of_puts ports pieces (Some old) (Some new) puts = puts.others

parts_in_report :
    {K : Type 0} → OneTrace → OneFlowResult → (plan : Plan) (input : Option (List ℕ)) (lanes lanes' : Option Lanes)
    (written : K → Option (List ℕ)) (out out' : K) → PutsPartOfReport plan input lanes lanes' (written out) (written out')
    → OutputsPart plan input lanes lanes' written out out'
parts_in_report law one plan None lanes lanes' written out out' h = record {
  others = others_of_puts plan.table (lanes_of_results h.results) lanes lanes' h.puts;
  front = tt;
}
parts_in_report law one plan (Some bytes) lanes lanes' written out out' h = record {
  others = others_of_puts plan.table (lanes_of_results h.results) lanes lanes' h.puts;
  front = λ records results end trace are.
      let same = law bytes plan.max h.records records h.end end h.of_input trace in
      let results_same : h.results ≡ results =
      one_of_each one (playout_of plan) records plan.table h.results results
      (subst (λ (all : List Record). AreResults plan all h.results) same.0 h.are_results) are in
      let text_same : report_text plan h.records h.results h.end ≡ report_text plan records results end =
      λ i. report_text plan (same.0 i) (results_same i) (same.1 i) in
      inr (
        subst (λ (all : List FlowResult). PutsAll lanes plan.table (lanes_of_results all) lanes') results_same h.puts,
        subst (λ (text : List ℕ). GainsPart (written out) text (written out')) text_same h.part,
      );
}

report_stops :
    OneTrace → (growth : Growth) (plan : Plan) (answer : Finish) (input : Option (List ℕ)) (lanes lanes' : Option Lanes) (written written' : Option (List ℕ))
    → PutsPartOfReport plan input lanes lanes' written written' → StopsIn growth plan answer input lanes lanes'
report_stops law growth plan answer None lanes lanes' written written' h = tt
report_stops law growth plan answer (Some bytes) lanes lanes' written written' h = λ records end trace.
    let same = law bytes plan.max h.records records h.end end h.of_input trace in
    subst (λ (all : List Record). Stops growth plan answer all lanes lanes') same.0
    (stops_whole growth plan answer h.records h.results lanes lanes' h.are_results h.puts)

module _ {O K : Type 0}
    (growth : Growth) (plan : Plan) (answer : Finish) (input input' : Option (List ℕ)) (lanes_of : O → Option Lanes) (lanes lanes' : O)
    (written : K → Option (List ℕ)) (out out' : K)
    (reads : IfSome input (λ bytes. IsReadFor plan.max answer bytes input'))
    (refused : IfSome input (λ bytes. (place : ℕ) → IsTrace bytes plan.max [] (NotTrace place) → (lanes' ≡ lanes) × (out' ≡ out))) where
  pub whole_repair :
      OneTrace → Finishes plan answer input (lanes_of lanes) (lanes_of lanes') (written out) (written out')
      → (ReadsAll answer → IsAtEnd input') → IsRepair growth plan answer input input' lanes_of lanes lanes' written out out'
  whole_repair law finishes all_read =
      let none : IsFault answer → ⊥ = λ fault. no_fault finishes.0 (subst IsFault finishes.1 fault) in
      record {
        whole = inr finishes;
        exactly = answers_whole law plan answer input finishes.2.records finishes.0 finishes.2.of_input finishes.1;
        all_read = all_read;
        reads = reads;
        refused = refused;
        part = λ fault. absurd (none fault);
        stops = λ fault. absurd (none fault);
        at_read = λ is. absurd (none (subst IsFault (sym is) tt));
        no_report = λ is. absurd (none (subst IsFault (sym is) tt));
      }

  faulted :
      IsFault answer → OutputsPart plan input (lanes_of lanes) (lanes_of lanes') written out out'
      → StopsIn growth plan answer input (lanes_of lanes) (lanes_of lanes')
      → (answer ≡ finish.ReadFault → IfSome input (λ bytes. StandsAtRead plan bytes input' (lanes_of lanes) (lanes_of lanes')))
      → (answer ≡ finish.ReadFault → out' ≡ out)
      → IsRepair growth plan answer input input' lanes_of lanes lanes' written out out'
  faulted fault part stops at_read no_report = record {
    whole = inl fault;
    exactly = answers_fault plan answer input fault;
    all_read = λ all. absurd (not_all_read answer fault all);
    reads = reads;
    refused = refused;
    part = λ _. part;
    stops = λ _. stops;
    at_read = at_read;
    no_report = no_report;
  }

  -- A fault that comes before the report is begun.
  pub stopped_repair :
      StopsLeaveParts → 1 ≤ plan.window → IsFault answer → WhereTold (OthersStay plan.table) (lanes_of lanes) (lanes_of lanes')
      → out' ≡ out → StopsIn growth plan answer input (lanes_of lanes) (lanes_of lanes')
      → (answer ≡ finish.ReadFault → IfSome input (λ bytes. StandsAtRead plan bytes input' (lanes_of lanes) (lanes_of lanes')))
      → IsRepair growth plan answer input input' lanes_of lanes lanes' written out out'
  stopped_repair law some fault others quiet stops at_read =
      faulted fault (parts_before law growth plan answer input (lanes_of lanes) (lanes_of lanes') written out out' some others quiet stops)
      stops at_read (λ _. quiet)

  -- One that comes while the report is written, after all lanes. No source is read then.
  pub stopped_report :
      OneTrace → OneFlowResult → IsFault answer → (answer ≡ finish.ReadFault → ⊥)
      → PutsPartOfReport plan input (lanes_of lanes) (lanes_of lanes') (written out) (written out')
      → IsRepair growth plan answer input input' lanes_of lanes lanes' written out out'
  stopped_report law one fault unread h =
      faulted fault (parts_in_report law one plan input (lanes_of lanes) (lanes_of lanes') written out out' h)
      (report_stops law growth plan answer input (lanes_of lanes) (lanes_of lanes') (written out) (written out') h)
      (λ read. absurd (unread read)) (λ read. absurd (unread read))
