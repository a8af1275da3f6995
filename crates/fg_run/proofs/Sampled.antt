-- A sample is what a request for it is answered with.
use Rattle.std.proofs.Common.{◌≡◌, ◌≢◌, ◌⊎◌, inl, inr, ℕ, Option, Ok, List, [], ◌∷◌, refl}
use Rattle.fg_io.specs.Faults.{CountsFaults}
use Rattle.fg_io.specs.Laws.{NoneIsPart}
use Rattle.fg_io.specs.Outlet.{Lanes}
use Rattle.fg_trace.specs.declared.step.Finish.{Finish}
use Rattle.fg_trace.specs.declared.step.Finish.TheVariants as finish
use Rattle.fg_trace.specs.Finish.{IsFault as IsFinishFault}
use Rattle.fg_flows.specs.declared.Plan.{Plan}
use Rattle.fg_drill.specs.Drill.{StopsLanes as DrillStops}
use Rattle.fg_drill.specs.Sample.{SampleComesBack, Samples, SamplesPart, sample_line, sample_sent}
use Rattle.fg_drill.proofs.PartLemmas.{no_sample}
use Rattle.fg_commands.specs.declared.ended.Why.TheVariants as why
use Rattle.fg_commands.specs.Answered.{RequestAnswered}
use Rattle.fg_commands.specs.Ended.{IsFault}
use Rattle.fg_commands.specs.Endings.{why_of_finish}
use Rattle.fg_commands.proofs.Completing.{complete_told}
use Rattle.fg_commands.proofs.Filters.{done_told, no_input, read_breaks, stays}
use Rattle.fg_commands.proofs.Lawful.{Lawful, none_wrong}
use Rattle.fg_commands.proofs.Told.{counts, finish_tells, unless_fault}
use Rattle.fg_run.specs.Sampling.{sampling}
use Rattle.fg_run.proofs.Counting.{in_turn}
use Rattle.fg_run.proofs.Drilled.{why_stops}
use Rattle.fg_run.proofs.Stopping.{stops_first}

finished : (answer : Finish) (P : Type 0) → IsFinishFault answer ⊎ ((answer ≡ finish.Done) × P) → IsFault (why_of_finish answer) ⊎ ((why_of_finish answer ≡ why.Done) × P)
finished answer P (inl fault) = inl (finish_tells.is_fault answer fault)
finished answer P (inr h) = inr (rw h.0 refl, h.1)

pub sample_answered : {S O K : Type 0} {left : S → Option (List ℕ)} {input_faults : S → ℕ} {input : S}
    {lanes_of : O → Option Lanes} {lane_faults : O → ℕ} {lanes lanes' : O} {written : K → Option (List ℕ)} {out_faults : K → ℕ} {out out' : K}
    → (seed datagrams loss : ℕ) (plan : Plan) (answer : Finish)
    → IsFinishFault answer ⊎ ((answer ≡ finish.Done) × Samples seed datagrams loss plan (lanes_of lanes) (lanes_of lanes') (written out) (written out'))
    → (IsFinishFault answer → SamplesPart seed datagrams loss plan (lanes_of lanes) (lanes_of lanes') (written out) (written out'))
    → (IsFinishFault answer → DrillStops plan (Ok answer) (sample_sent seed datagrams loss) (lanes_of lanes) (lanes_of lanes'))
    → IsFinishFault answer ⊎ SampleComesBack seed datagrams loss plan (lanes_of lanes) (lanes_of lanes')
    → answer ≢ finish.ReadFault
    → CountsFaults (answer ≡ finish.ReadFault) (answer ≡ finish.WriteFault) [] ((out_faults out, out_faults out') ∷ (lane_faults lanes, lane_faults lanes') ∷ [])
    → RequestAnswered (sampling seed datagrams loss plan) (why_of_finish answer) left input_faults input input lanes_of lane_faults lanes lanes' written out_faults out out'
sample_answered seed datagrams loss plan answer whole part stopped back no_read faults =
    let is = done_told _ (why_of_finish answer) (finished answer _ whole) in
    record {
      answers = finished answer _ whole;
      comes_back = unless_fault finish_tells answer _ back;
      exactly = is;
      complete = complete_told _ _ _ (why_of_finish answer) _ (λ bytes due. due ≡ why.Done) is (λ e. absurd (no_read (finish_tells.read_of answer e))) (λ e. faults.write (finish_tells.write_of answer e));
      part = λ fault. part (finish_tells.fault_of answer fault);
      stops = λ fault. why_stops plan (Ok answer) _ _ _ (stopped (finish_tells.fault_of answer fault));
      at_read = λ e. no_read (finish_tells.read_of answer e);
      no_report = λ last e. absurd last;
      counts = in_turn (counts finish_tells answer (no_input faults));
      nothing_read = λ h. refl;
      nothing_written = λ h. absurd h;
      no_lane = λ h. absurd h;
      no_input = none_wrong _ _;
      reads = stays _;
      all_read = λ h. absurd h;
    }

-- where nothing was made
pub lawful : NoneIsPart → (seed datagrams loss : ℕ) (plan : Plan) → Lawful (sampling seed datagrams loss plan)
lawful none seed datagrams loss plan = record {
  breaks = read_breaks;
  part = λ {K} input lanes written out. no_sample seed datagrams loss plan lanes (written out) (written out) (none (written out) (sample_line seed datagrams loss));
  stops = λ input lanes. stops_first plan finish.Memory (sample_sent seed datagrams loss) lanes;
  comes_back = λ input lanes written. inl tt;
  reads = λ bytes. refl;
  reads_all = λ no. no;
}
