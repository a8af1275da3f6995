-- A repair is what a request for it is answered with.
use Rattle.std.proofs.Common.{◌≡◌, ◌⊎◌, inl, inr, ℕ, Option, None, Some, IfSome, List, [], ◌∷◌, refl, ap, ◌∙◌}
use Rattle.fg_io.specs.Outlet.{Lanes}
use Rattle.fg_io.specs.Sink.{GainsPart}
use Rattle.fg_trace.specs.declared.step.Finish.{Finish}
use Rattle.fg_trace.specs.declared.step.Finish.TheVariants as finish
use Rattle.fg_trace.specs.Finish.{IsFault as IsFinishFault}
use Rattle.fg_trace.specs.Trace.{Record, Ending, IsTrace}
use Rattle.fg_flows.specs.declared.Plan.{Plan}
use Rattle.fg_results.specs.Contract.{IsRepair}
use Rattle.fg_results.specs.Counted.{MayHaveFailedToRead, RepairCounts}
use Rattle.fg_results.specs.Flow.{FlowResult}
use Rattle.fg_results.specs.Lanes.{PutsAll, PutsAllPart}
use Rattle.fg_results.specs.Repair.{AreResults, Finishes, lanes_of, report_text}
use Rattle.fg_results.specs.Stops.{Growth, ByRecord, ByBatch, growth_of}
use Rattle.fg_drill.specs.DrillLaws.{RepairsComeBack}
use Rattle.fg_drill.proofs.PartLemmas.{nothing_put, others_stay}
use Rattle.fg_drill.proofs.Repairs.{finishes_back}
use Rattle.fg_commands.specs.declared.ended.Why.TheVariants as why
use Rattle.fg_commands.specs.Answered.{RequestAnswered}
use Rattle.fg_commands.specs.Ended.{IsFault}
use Rattle.fg_commands.specs.Endings.{why_of_finish}
use Rattle.fg_commands.specs.Traces.{IsTraceAnswer}
use Rattle.fg_commands.proofs.Completing.{complete_told}
use Rattle.fg_commands.proofs.Lawful.{Lawful}
use Rattle.fg_commands.proofs.Told.{finish_tells, unless_fault}
use Rattle.fg_commands.proofs.Traces.{exactly, no_end, reads_all, reads_trace, refused, same_why, unread}
use Rattle.fg_run.specs.Counted.{MayHaveFailedBeside}
use Rattle.fg_run.specs.Repairing.{repairing}
use Rattle.fg_run.proofs.Counting.{counts_ahead, failed_beside}
use Rattle.fg_run.proofs.Stopping.{finish_stops, trace_stops_first}

-- the outputs are whole
answers : (plan : Plan) (answer : Finish) (input : Option (List ℕ)) (lanes lanes' : Option Lanes) (written written' : Option (List ℕ))
    → IsFinishFault answer ⊎ Finishes plan answer input lanes lanes' written written'
    → IsFault (why_of_finish answer) ⊎ (repairing plan).gains (why_of_finish answer) input lanes lanes' written written'
answers plan answer input lanes lanes' written written' (inl fault) = inl (finish_tells.is_fault answer fault)
answers plan answer input lanes lanes' written written' (inr h) = inr (h.0, ap why_of_finish h.1 ∙ same_why h.0, h.2)

-- what comes back
told_unless_fault : (answer : Finish) (input : Option (List ℕ)) (P : List ℕ → Type 0) → IfSome input (λ bytes. IsFinishFault answer ⊎ P bytes) → IfSome input (λ bytes. IsFault (why_of_finish answer) ⊎ P bytes)
told_unless_fault answer None P h = tt
told_unless_fault answer (Some bytes) P h = unless_fault finish_tells answer (P bytes) h

-- how faults are counted
failed : (growth : Growth) (answer : Finish) → MayHaveFailedToRead growth answer → MayHaveFailedBeside growth (why_of_finish answer)
failed ByRecord answer e = ap why_of_finish e
failed ByBatch answer fault = finish_tells.is_fault answer fault

-- a repair
pub repair_answered : {S O K : Type 0} {left : S → Option (List ℕ)} {input_faults : S → ℕ} {input input' : S}
    {told_by : O → Option Lanes} {lane_faults : O → ℕ} {lanes lanes' : O} {written : K → Option (List ℕ)} {out_faults : K → ℕ} {out out' : K}
    → RepairsComeBack → (plan : Plan) (answer : Finish)
    → IsRepair (growth_of plan) plan answer (left input) (left input') told_by lanes lanes' written out out'
    → RepairCounts (growth_of plan) answer ((input_faults input, input_faults input') ∷ [])
    ((out_faults out, out_faults out') ∷ (lane_faults lanes, lane_faults lanes') ∷ [])
    → RequestAnswered (repairing plan) (why_of_finish answer) left input_faults input input' told_by lane_faults lanes lanes' written out_faults out out'
repair_answered law plan answer r counts =
    let due = exactly plan.max answer _ r.exactly in
    record {
      answers = answers plan answer _ _ _ _ _ r.whole;
      comes_back = told_unless_fault answer _ _ (finishes_back law plan answer _ _ _ _ _ r.whole);
      exactly = due;
      complete = complete_told _ _ _ (why_of_finish answer) _ (IsTraceAnswer plan.max) due (λ e. counts.read (finish_tells.read_of answer e)) (λ e. counts.write (finish_tells.write_of answer e));
      part = λ fault. r.part (finish_tells.fault_of answer fault);
      stops = finish_stops plan answer _ _ _ r.stops;
      at_read = λ e. r.at_read (finish_tells.read_of answer e);
      no_report = λ last e. r.no_report (finish_tells.read_of answer e);
      counts = counts_ahead finish_tells answer (failed (growth_of plan) answer) counts;
      nothing_read = λ h. absurd h;
      nothing_written = λ h. absurd h;
      no_lane = λ h. absurd h;
      no_input = refused plan.max _ _ r.refused;
      reads = reads_trace plan.max answer _ _ r.reads;
      all_read = λ h. r.all_read (reads_all answer h);
    }

-- where nothing was repaired, the outputs are parts, as they were
front : {K : Type 0} (plan : Plan) (input : Option (List ℕ)) (lanes : Option Lanes) (written : K → Option (List ℕ)) (out : K)
    → IfSome input (λ bytes. (records : List Record) (results : List FlowResult) (end : Ending)
    → IsTrace bytes plan.max records end → AreResults plan records results
    → (PutsAllPart lanes plan.table (lanes_of results) lanes × (out ≡ out))
    ⊎ (PutsAll lanes plan.table (lanes_of results) lanes × GainsPart (written out) (report_text plan records results end) (written out)))
front plan None lanes written out = tt
front plan (Some bytes) lanes written out = λ records results end h k. inl (nothing_put plan records results lanes k, refl)

no_memory : (input : Option (List ℕ)) (P : List ℕ → Type 0) → IfSome input (λ bytes. IsFault why.Memory ⊎ P bytes)
no_memory None P = tt
no_memory (Some bytes) P = inl tt

pub lawful : (plan : Plan) → Lawful (repairing plan)
lawful plan = record {
  breaks = failed_beside (growth_of plan);
  part = λ {K} input lanes written out. record {
    others = others_stay plan lanes;
    front = front plan input lanes written out;
  };
  stops = trace_stops_first plan finish.Memory;
  comes_back = λ input lanes written. no_memory input _;
  reads = unread plan.max;
  reads_all = no_end;
}
