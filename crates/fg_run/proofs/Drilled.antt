-- The answer of a drill, as the program's.
use Rattle.std.proofs.Common.{◌≡◌, ◌⊎◌, ◌≤◌, ◌^◌, inl, inr, ℕ, Option, None, Some, IfSome, Ok, Err, List, [], ◌∷◌, refl, sym, ap, ◌∙◌, subst}
use Rattle.std.specs.Io.KnownBytes.{IsAtEnd}
use Rattle.fg_io.specs.Outlet.{Lanes}
use Rattle.fg_ts.specs.declared.TsFault.TheVariants as packets
use Rattle.fg_shape.specs.declared.encoding.Losses.{Losses}
use Rattle.fg_shape.specs.declared.encoding.Settings.{Settings}
use Rattle.fg_shape.specs.Losses.{MayLose}
use Rattle.fg_shape.specs.Settings.{CanEncode}
use Rattle.fg_trace.specs.declared.step.Finish.TheVariants as finish
use Rattle.fg_trace.specs.Trace.{Record}
use Rattle.fg_flows.specs.declared.Plan.{Plan}
use Rattle.fg_flows.specs.Plan.{PlanFits}
use Rattle.fg_encode.specs.declared.stream.StreamFault.TheVariants.{NotTransport, TooLong}
use Rattle.fg_encode.specs.Reading.{IsStreamReadFor}
use Rattle.fg_encode.specs.Stream.{LeavesNothing, StreamEnding, IsCut}
use Rattle.fg_results.specs.Stops.{Growth, ByRecord, ByBatch, growth_of}
use Rattle.fg_drill.specs.Drill.{Answer, Drills, DrillsPart, IsFault as IsDrillFault, LeavesAtRead, StopsLanes as DrillStops, StreamComesBack, answer_to, ending_of, records_sent}
use Rattle.fg_drill.specs.DrillLaws.{DrillsAreExact, DrillsComeBack}
use Rattle.fg_drill.proofs.DrillReading.{told_none, told_of}
use Rattle.fg_drill.proofs.PartLemmas.{no_drill}
use Rattle.fg_encode.proofs.ReadLemmas.{unread}
use Rattle.fg_commands.specs.declared.ended.Why.{Why}
use Rattle.fg_commands.specs.declared.ended.Why.TheVariants as why
use Rattle.fg_commands.specs.Answered.{RequestAnswered}
use Rattle.fg_commands.specs.Ended.{IsFault}
use Rattle.fg_commands.specs.Endings.{why_of_stream}
use Rattle.fg_commands.specs.Streams.{EndsStream, IsStreamAnswer, ReadsStream}
use Rattle.fg_commands.proofs.Completing.{complete_told}
use Rattle.fg_commands.proofs.Lawful.{Lawful, none_wrong}
use Rattle.fg_commands.proofs.Streams.{no_fault}
use Rattle.fg_commands.proofs.Told.{Tells, finish_tells}
use Rattle.fg_run.specs.Counted.{DrillCounts, DrillMayHaveFailed, MayHaveFailedBeside}
use Rattle.fg_run.specs.Drilling.{DrillComesBack, DrillsFor, drilling, why_of_drill}
use Rattle.fg_run.specs.Stopping.{StopsLanes}
use Rattle.fg_run.proofs.Counting.{counts_ahead, failed_beside}
use Rattle.fg_run.proofs.Stopping.{drill_stops_first}

-- a fault's answer is that of a fault
drill_fault_of : (answer : Answer) → IsFault (why_of_drill answer) → IsDrillFault answer
drill_fault_of (Ok finish) h = finish_tells.fault_of finish h
drill_fault_of (Err fault) h = absurd (no_fault (Some fault) h)

is_drill_fault : (answer : Answer) → IsDrillFault answer → IsFault (why_of_drill answer)
is_drill_fault (Ok finish) h = finish_tells.is_fault finish h
is_drill_fault (Err fault) h = absurd h

-- the outputs are whole
drills_for : (settings : Settings) (plan : Plan) (losses : Losses) (max : ℕ) (answer : Answer) (input : Option (List ℕ)) (lanes lanes' : Option Lanes) (written written' : Option (List ℕ))
    → IsDrillFault answer ⊎ Drills settings plan losses max answer input lanes lanes' written written'
    → IsFault (why_of_drill answer) ⊎ DrillsFor settings plan losses max (why_of_drill answer) input lanes lanes' written written'
drills_for settings plan losses max answer input lanes lanes' written written' (inl fault) = inl (is_drill_fault answer fault)
drills_for settings plan losses max answer input lanes lanes' written written' (inr h) = inr (answer, refl, h)

-- what comes back
drill_comes_back : (settings : Settings) (plan : Plan) (losses : Losses) (max : ℕ) (answer : Answer) (input : Option (List ℕ)) (lanes lanes' : Option Lanes)
    → IfSome input (λ bytes. IsDrillFault answer ⊎ StreamComesBack settings plan losses max answer bytes lanes lanes')
    → IfSome input (λ bytes. IsFault (why_of_drill answer) ⊎ DrillComesBack settings plan losses max (why_of_drill answer) bytes lanes lanes')
drill_comes_back settings plan losses max answer None lanes lanes' h = tt
drill_comes_back settings plan losses max answer (Some bytes) lanes lanes' (inl fault) = inl (is_drill_fault answer fault)
drill_comes_back settings plan losses max answer (Some bytes) lanes lanes' (inr back) = inr (answer, refl, back)

-- the answer to a stream
same_why : (end : StreamEnding) → why_of_drill (answer_to end) ≡ why_of_stream end
same_why None = refl
same_why (Some fault) = refl

due_of : (answer : Answer) (end : StreamEnding) (due : Why) → IsDrillFault answer ⊎ (answer ≡ answer_to end) → due ≡ why_of_stream end → IsFault (why_of_drill answer) ⊎ (why_of_drill answer ≡ due)
due_of answer end due (inl fault) is = inl (is_drill_fault answer fault)
due_of answer end due (inr same) is = inr (ap why_of_drill same ∙ same_why end ∙ sym is)

exactly : (packets max : ℕ) (answer : Answer) (input : Option (List ℕ))
    → IfSome input (λ bytes. (payloads : List (List ℕ)) (end : StreamEnding) → IsCut packets max bytes payloads end → IsDrillFault answer ⊎ (answer ≡ answer_to end))
    → IfSome input (λ bytes. (due : Why) → IsStreamAnswer packets max bytes due → IsFault (why_of_drill answer) ⊎ (why_of_drill answer ≡ due))
exactly packets max answer None h = tt
exactly packets max answer (Some bytes) h = λ due k. due_of answer k.1 due (h k.0 k.1 k.2) k.3

-- how far the stream was read
reads : (settings : Settings) (plan : Plan) (losses : Losses) (max : ℕ) (answer : Answer) (input now : Option (List ℕ)) (lanes lanes' : Option Lanes) (written written' : Option (List ℕ))
    → IsDrillFault answer ⊎ Drills settings plan losses max answer input lanes lanes' written written'
    → IfSome input (λ bytes. IsStreamReadFor max (ending_of answer) bytes now) → IfSome input (λ bytes. ReadsStream max (why_of_drill answer) bytes now)
reads settings plan losses max answer None now lanes lanes' written written' d h = tt
reads settings plan losses max answer (Some bytes) now lanes lanes' written written' (inl fault) h =
    inl (is_drill_fault answer fault, subst (λ (e : Option StreamEnding). IsStreamReadFor max e bytes now) (told_none answer fault) h)
reads settings plan losses max answer (Some bytes) now lanes lanes' written written' (inr d) h =
    inr (d.end, ap why_of_drill d.answer_is ∙ same_why d.end, subst (λ (e : Option StreamEnding). IsStreamReadFor max e bytes now) (ap ending_of d.answer_is ∙ told_of d.end) h)

all_read : (answer : Answer) (now : Option (List ℕ)) → IfSome (ending_of answer) (λ ending. LeavesNothing ending → IsAtEnd now) → EndsStream (why_of_drill answer) → IsAtEnd now
all_read (Ok finish.Done) now h ends = h tt
all_read (Ok finish.ReadFault) now h (inl e) = absurd (let a = e in cc)
all_read (Ok finish.ReadFault) now h (inr e) = absurd (let a = e.1 in cc)
all_read (Ok finish.WriteFault) now h (inl e) = absurd (let a = e in cc)
all_read (Ok finish.WriteFault) now h (inr e) = absurd (let a = e.1 in cc)
all_read (Ok (finish.NotTrace n)) now h (inl e) = absurd (let a = e in cc)
all_read (Ok (finish.NotTrace n)) now h (inr e) = absurd (let a = e.1 in cc)
all_read (Ok (finish.Cut n)) now h (inl e) = absurd (let a = e in cc)
all_read (Ok (finish.Cut n)) now h (inr e) = absurd (let a = e.1 in cc)
all_read (Ok (finish.TooLong n)) now h (inl e) = absurd (let a = e in cc)
all_read (Ok (finish.TooLong n)) now h (inr e) = absurd (let a = e.1 in cc)
all_read (Ok finish.Memory) now h (inl e) = absurd (let a = e in cc)
all_read (Ok finish.Memory) now h (inr e) = absurd (let a = e.1 in cc)
all_read (Err (TooLong n)) now h (inl e) = absurd (let a = e in cc)
all_read (Err (TooLong n)) now h (inr e) = absurd (let a = e.1 in cc)
all_read (Err (NotTransport (packets.Ragged n))) now h ends = h tt
all_read (Err (NotTransport (packets.NoSync n))) now h (inl e) = absurd (let a = e in cc)
all_read (Err (NotTransport (packets.NoSync n))) now h (inr e) = absurd (let a = e.1 in cc)

-- where it stops
pub why_stops : (plan : Plan) (answer : Answer) (records : List Record) (lanes lanes' : Option Lanes) → DrillStops plan answer records lanes lanes' → StopsLanes plan (why_of_drill answer) records lanes lanes'
why_stops plan answer records lanes lanes' at = (at.0, ap why_of_drill at.1, at.2)

stops : (settings : Settings) (plan : Plan) (losses : Losses) (max : ℕ) (answer : Answer) (input : Option (List ℕ)) (lanes lanes' : Option Lanes)
    → IfSome input (λ bytes. (payloads : List (List ℕ)) (end : StreamEnding) → IsCut settings.packets max bytes payloads end → DrillStops plan answer (records_sent settings losses payloads) lanes lanes')
    → IfSome input (λ bytes. (payloads : List (List ℕ)) (end : StreamEnding) → IsCut settings.packets max bytes payloads end → StopsLanes plan (why_of_drill answer) (records_sent settings losses payloads) lanes lanes')
stops settings plan losses max answer None lanes lanes' h = tt
stops settings plan losses max answer (Some bytes) lanes lanes' h = λ payloads end cut. why_stops plan answer _ _ _ (h payloads end cut)

-- how faults are counted
read_of : (answer : Answer) → why_of_drill answer ≡ why.ReadFault → answer ≡ Ok finish.ReadFault
read_of (Ok finish.Done) e = absurd (let a = e in cc)
read_of (Ok finish.ReadFault) e = refl
read_of (Ok finish.WriteFault) e = absurd (let a = e in cc)
read_of (Ok (finish.NotTrace n)) e = absurd (let a = e in cc)
read_of (Ok (finish.Cut n)) e = absurd (let a = e in cc)
read_of (Ok (finish.TooLong n)) e = absurd (let a = e in cc)
read_of (Ok finish.Memory) e = absurd (let a = e in cc)
read_of (Err (TooLong n)) e = absurd (let a = e in cc)
read_of (Err (NotTransport fault)) e = absurd (let a = e in cc)

write_of : (answer : Answer) → why_of_drill answer ≡ why.WriteFault → answer ≡ Ok finish.WriteFault
write_of (Ok finish.Done) e = absurd (let a = e in cc)
write_of (Ok finish.ReadFault) e = absurd (let a = e in cc)
write_of (Ok finish.WriteFault) e = refl
write_of (Ok (finish.NotTrace n)) e = absurd (let a = e in cc)
write_of (Ok (finish.Cut n)) e = absurd (let a = e in cc)
write_of (Ok (finish.TooLong n)) e = absurd (let a = e in cc)
write_of (Ok finish.Memory) e = absurd (let a = e in cc)
write_of (Err (TooLong n)) e = absurd (let a = e in cc)
write_of (Err (NotTransport fault)) e = absurd (let a = e in cc)

tells : Tells why_of_drill IsDrillFault (λ answer. answer ≡ Ok finish.ReadFault) (λ answer. answer ≡ Ok finish.WriteFault)
tells = record {
  is_fault = is_drill_fault;
  fault_of = drill_fault_of;
  read = λ answer e. ap why_of_drill e;
  read_of = read_of;
  write = λ answer e. ap why_of_drill e;
  write_of = write_of;
}

failed : (growth : Growth) (answer : Answer) → DrillMayHaveFailed growth answer → MayHaveFailedBeside growth (why_of_drill answer)
failed ByRecord answer e = ap why_of_drill e
failed ByBatch answer fault = is_drill_fault answer fault

pub drill_answered : {S O K : Type 0} {left : S → Option (List ℕ)} {input_faults : S → ℕ} {input input' : S}
    {lanes_of : O → Option Lanes} {lane_faults : O → ℕ} {lanes lanes' : O} {written : K → Option (List ℕ)} {out_faults : K → ℕ} {out out' : K}
    → DrillsAreExact → DrillsComeBack → (settings : Settings) (plan : Plan) (losses : Losses) (max : ℕ) (answer : Answer)
    → CanEncode settings → PlanFits plan → plan.table ≡ settings.port ∷ [] → MayLose losses → max ≤ 2 ^ 40
    → IsDrillFault answer ⊎ Drills settings plan losses max answer (left input) (lanes_of lanes) (lanes_of lanes') (written out) (written out')
    → IfSome (ending_of answer) (λ ending. LeavesNothing ending → IsAtEnd (left input'))
    → IfSome (left input) (λ bytes. IsStreamReadFor max (ending_of answer) bytes (left input'))
    → (IsDrillFault answer → DrillsPart settings plan losses max (left input) (lanes_of lanes) (lanes_of lanes') written out out')
    → (IsDrillFault answer → IfSome (left input) (λ bytes. (payloads : List (List ℕ)) (end : StreamEnding) → IsCut settings.packets max bytes payloads end
    → DrillStops plan answer (records_sent settings losses payloads) (lanes_of lanes) (lanes_of lanes')))
    → (answer ≡ Ok finish.ReadFault → IfSome (left input) (λ bytes. (payloads : List (List ℕ)) (end : StreamEnding) → IsCut settings.packets max bytes payloads end
    → LeavesAtRead plan (records_sent settings losses payloads) (lanes_of lanes) (lanes_of lanes')))
    → DrillCounts (growth_of plan) answer ((input_faults input, input_faults input') ∷ [])
    ((out_faults out, out_faults out') ∷ (lane_faults lanes, lane_faults lanes') ∷ [])
    → RequestAnswered (drilling settings plan losses max) (why_of_drill answer) left input_faults input input' lanes_of lane_faults lanes lanes' written out_faults out out'
drill_answered exact back settings plan losses max answer can fits table lose most whole ends read part stopped leaves counts =
    let due = exactly settings.packets max answer _ (exact settings plan losses max answer _ _ _ _ _ whole) in
    record {
      answers = drills_for settings plan losses max answer _ _ _ _ _ whole;
      comes_back = drill_comes_back settings plan losses max answer _ _ _ (back settings plan losses max answer _ _ _ _ _ can fits table lose most whole);
      exactly = due;
      complete = complete_told _ _ _ (why_of_drill answer) _ (IsStreamAnswer settings.packets max) due (λ e. counts.read (read_of answer e)) (λ e. counts.write (write_of answer e));
      part = λ fault. part (drill_fault_of answer fault);
      stops = λ fault. stops settings plan losses max answer _ _ _ (stopped (drill_fault_of answer fault));
      at_read = λ e. leaves (read_of answer e);
      no_report = λ last e. absurd last;
      counts = counts_ahead tells answer (failed (growth_of plan) answer) counts;
      nothing_read = λ h. absurd h;
      nothing_written = λ h. absurd h;
      no_lane = λ h. absurd h;
      no_input = none_wrong _ _;
      reads = reads settings plan losses max answer _ _ _ _ _ _ whole read;
      all_read = all_read answer _ ends;
    }

-- where nothing was drilled
no_memory : (input : Option (List ℕ)) (P : List ℕ → Type 0) → IfSome input (λ bytes. IsFault why.Memory ⊎ P bytes)
no_memory None P = tt
no_memory (Some bytes) P = inl tt

no_end : EndsStream why.Memory → ⊥
no_end (inl e) = let a = e in cc
no_end (inr e) = let a = e.1 in cc

pub lawful : (settings : Settings) (plan : Plan) (losses : Losses) (max : ℕ) → Lawful (drilling settings plan losses max)
lawful settings plan losses max = record {
  breaks = failed_beside (growth_of plan);
  part = λ {K} input lanes written out. no_drill settings plan losses max input lanes written out;
  stops = drill_stops_first settings plan losses max finish.Memory;
  comes_back = λ input lanes written. no_memory input _;
  reads = λ bytes. inl (tt, unread max bytes);
  reads_all = no_end;
}
