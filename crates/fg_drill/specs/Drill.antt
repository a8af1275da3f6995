-- What a drill of a stream comes to. This project's own.
use Rattle.std.specs.Prelude.{◌≡◌, ◌⊎◌, ℕ, List, length, take, Option, None, Some, IfSome, Result, Ok, Err}
use Rattle.fg_io.specs.Outlet.{Lanes, Puts, WhereTold}
use Rattle.fg_io.specs.Sink.{GainsPart}
use Rattle.fg_shape.specs.declared.encoding.Losses.{Losses}
use Rattle.fg_shape.specs.declared.encoding.Settings.{Settings}
use Rattle.fg_trace.specs.declared.step.Finish.{Finish}
use Rattle.fg_trace.specs.declared.step.Finish.TheVariants as finish
use Rattle.fg_trace.specs.Finish.{IsFault as IsFinishFault}
use Rattle.fg_trace.specs.Trace.{Record, Ending, Ended, NotTrace, Cut, TooLong}
use Rattle.fg_flows.specs.declared.Plan.{Plan}
use Rattle.fg_flows.specs.Plan.{playout_of}
use Rattle.fg_encode.specs.declared.stream.StreamFault.{StreamFault}
use Rattle.fg_encode.specs.Stream.{StreamEnding, IsCut}
use Rattle.fg_results.specs.Flow.{FlowResult, IsFlowResult}
use Rattle.fg_results.specs.Lanes.{OthersStay, PutsAll, PutsAllPart}
use Rattle.fg_results.specs.Repair.{AreResults, Gain, Outputs, lanes_of, report_text}
use Rattle.fg_results.specs.Stops.{LanesShow, Stops, growth_of}
use Rattle.fg_drill.specs.ComesBack.{stream_of}
use Rattle.fg_drill.specs.Repaired.{Peels, stream_shown}
use Rattle.fg_thin.specs.Thinned.{is_lost, thinned}

-- How a drill ends: as the repair of what is sent does; or, where that was done, early with its stream.
abbrev pub Answer : Type 0
Answer = Result Finish StreamFault

-- The answer to a stream that ends so.
abbrev pub answer_to : StreamEnding → Answer
answer_to None = Ok finish.Done
answer_to (Some fault) = Err fault

-- The ending that an answer tells, if it tells one.
abbrev pub ending_of : Answer → Option StreamEnding
ending_of (Ok finish.Done) = Some None
ending_of (Ok finish.ReadFault) = None
ending_of (Ok finish.WriteFault) = None
ending_of (Ok (finish.NotTrace n)) = None
ending_of (Ok (finish.Cut n)) = None
ending_of (Ok (finish.TooLong n)) = None
ending_of (Ok finish.Memory) = None
ending_of (Err fault) = Some (Some fault)

-- A fault of the outside, or want of memory.
abbrev pub IsFault : Answer → Type 0
IsFault (Ok finish) = IsFinishFault finish
IsFault (Err fault) = ⊥

-- What is sent of the payloads of a stream.
abbrev pub records_sent : Settings → Losses → List (List ℕ) → List Record
records_sent settings losses payloads = thinned settings (is_lost losses) payloads

-- The lanes and the sink have gained what a repair gives for the records that are sent of the stream's payloads, those before
-- its ending. The answer is that of its ending.
pub record DrillsStream
    (settings : Settings) (plan : Plan) (losses : Losses) (max : ℕ) (answer : Answer) (bytes : List ℕ)
    (lanes lanes' : Option Lanes) (written written' : Option (List ℕ)) : Type 0 where
  pub payloads : List (List ℕ)
  pub end : StreamEnding
  pub results : List FlowResult
  pub cut : IsCut settings.packets max bytes payloads end
  pub answer_is : answer ≡ answer_to end
  pub are_results : AreResults plan (records_sent settings losses payloads) results
  pub gain : Gain plan (records_sent settings losses payloads) results Ended lanes lanes' written written'

-- The answer where some trace ended so: after a whole one that of some stream, else the trace's own.
abbrev pub IsPassedOn : Ending → Answer → Type 0
IsPassedOn Ended answer = (end : StreamEnding) × (answer ≡ answer_to end)
IsPassedOn (NotTrace n) answer = answer ≡ Ok (finish.NotTrace n)
IsPassedOn (Cut n) answer = answer ≡ Ok (finish.Cut n)
IsPassedOn (TooLong n) answer = answer ≡ Ok (finish.TooLong n)

-- So it is for the input. One that doesn't tell its bytes is repaired too, whatever its trace.
abbrev pub Drills :
    Settings → Plan → Losses → ℕ → Answer → Option (List ℕ) → Option Lanes → Option Lanes → Option (List ℕ)
    → Option (List ℕ) → Type 0
Drills settings plan losses max answer (Some bytes) lanes lanes' written written' =
    DrillsStream settings plan losses max answer bytes lanes lanes' written written'
Drills settings plan losses max answer None lanes lanes' written written' =
    (end : Ending) × IsPassedOn end answer × Outputs plan end None lanes lanes' written written'

-- What a fault leaves of that, the lanes first: each flow's lane has gained a prefix of its bytes, and the sink nothing; or
-- each lane is whole, and the sink has gained a prefix of the report. The lanes of other ports are as they were.
pub record DrillsPart {K : Type 0}
    (settings : Settings) (plan : Plan) (losses : Losses) (max : ℕ) (input : Option (List ℕ))
    (lanes lanes' : Option Lanes) (written : K → Option (List ℕ)) (out out' : K) : Type 0 where
  pub others : WhereTold (OthersStay plan.table) lanes lanes'
  pub front : IfSome input (λ bytes. (payloads : List (List ℕ)) (end : StreamEnding) (results : List FlowResult)
      → IsCut settings.packets max bytes payloads end
      → AreResults plan (records_sent settings losses payloads) results
      → (PutsAllPart lanes plan.table (lanes_of results) lanes' × (out' ≡ out))
      ⊎ (PutsAll lanes plan.table (lanes_of results) lanes'
      × GainsPart (written out) (report_text plan (records_sent settings losses payloads) results Ended) (written out')))

-- With this answer a repair of these records stopped at a stage where the plan lets it: each lane has gained exactly what was
-- shown up to there, but for the one that a put broke.
abbrev pub StopsLanes : Plan → Answer → List Record → Option Lanes → Option Lanes → Type 0
StopsLanes plan answer records lanes lanes' =
    (finish : Finish) × (answer ≡ Ok finish) × Stops (growth_of plan) plan finish records lanes lanes'

-- What a failed read leaves of the lanes of a drill that sends these records, in all: none was made; or each has gained exactly what the
-- first so many of them show; or all were sent, and each lane is whole. So no lane is broken, and none is flushed before the others.
pub data LeavesAtRead (plan : Plan) (sent : List Record) (before after : Option Lanes) : Type 0 where
  none_made : after ≡ before → LeavesAtRead plan sent before after
  first_shown : (count : ℕ) → LanesShow plan (take count sent) before after → LeavesAtRead plan sent before after
  all_whole : (results : List FlowResult) → AreResults plan sent results → PutsAll before plan.table (lanes_of results) after
      → LeavesAtRead plan sent before after

-- What comes back of a stream: no play is inconsistent, and the lane at the flow's port gains the stream without the slots
-- that no play shows. Where what is sent peels, these are all payloads, one after another; and where the stream ends with its
-- last payload, all payloads are the whole stream. The answer is that of the stream's ending.
pub record StreamComesBack
    (settings : Settings) (plan : Plan) (losses : Losses) (max : ℕ) (answer : Answer) (bytes : List ℕ)
    (lanes lanes' : Option Lanes) : Type 0 where
  pub payloads : List (List ℕ)
  pub end : StreamEnding
  pub result : FlowResult
  pub cut : IsCut settings.packets max bytes payloads end
  pub answer_is : answer ≡ answer_to end
  pub is : IsFlowResult (playout_of plan) (records_sent settings losses payloads) settings.port result
  pub consistent : result.sum.inconsistent ≡ 0
  pub shown : result.lane ≡ stream_shown payloads is.plays
  pub peels :
      Peels (playout_of plan) settings.port (records_sent settings losses payloads) (length payloads)
      → result.lane ≡ stream_of payloads
  pub whole : end ≡ None → stream_of payloads ≡ bytes
  pub gains : Puts lanes settings.port result.lane lanes'
