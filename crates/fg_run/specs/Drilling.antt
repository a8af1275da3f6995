-- What `drill` is for: this project's own.
use Rattle.std.specs.Prelude.{◌≡◌, ◌⊎◌, ℕ, List, Some, Option, IfSome, Ok, Err}
use Rattle.fg_io.specs.Outlet.{Lanes}
use Rattle.fg_shape.specs.declared.encoding.Losses.{Losses}
use Rattle.fg_shape.specs.declared.encoding.Settings.{Settings}
use Rattle.fg_encode.specs.Stream.{StreamEnding, IsCut}
use Rattle.fg_flows.specs.declared.Plan.{Plan}
use Rattle.fg_results.specs.Stops.{growth_of}
use Rattle.fg_drill.specs.Drill.{Answer, Drills, DrillsPart, LeavesAtRead, StreamComesBack, records_sent}
use Rattle.fg_commands.specs.declared.ended.Why.{Why}
use Rattle.fg_commands.specs.Behaviour.{Behaviour}
use Rattle.fg_commands.specs.Ended.{IsFault}
use Rattle.fg_commands.specs.Endings.{why_of_finish, why_of_stream}
use Rattle.fg_commands.specs.Streams.{EndsStream, IsStreamAnswer, ReadsStream}
use Rattle.fg_run.specs.Counted.{MayHaveFailedBeside}
use Rattle.fg_run.specs.Stopping.{StopsLanes}

-- The answer of a drill that ends so.
abbrev pub why_of_drill : Answer → Why
why_of_drill (Ok finish) = why_of_finish finish
why_of_drill (Err fault) = why_of_stream (Some fault)

-- What is sent of the stream is repaired, and the answer is that of the drill.
abbrev pub DrillsFor :
    Settings → Plan → Losses → ℕ → Why → Option (List ℕ) → Option Lanes → Option Lanes → Option (List ℕ)
    → Option (List ℕ) → Type 0
DrillsFor settings plan losses max answer input lanes lanes' written written' =
    (drilled : Answer) × (answer ≡ why_of_drill drilled)
    × Drills settings plan losses max drilled input lanes lanes' written written'

-- What comes back of the stream, where the drill has this answer.
abbrev pub DrillComesBack :
    Settings → Plan → Losses → ℕ → Why → List ℕ → Option Lanes → Option Lanes → Type 0
DrillComesBack settings plan losses max answer bytes lanes lanes' =
    (drilled : Answer) × (answer ≡ why_of_drill drilled)
    × StreamComesBack settings plan losses max drilled bytes lanes lanes'

-- What is sent of the stream is repaired, and the answer is that of the stream's ending. A fault stops it over the records that are
-- sent, and a failed read behind the first so many of them.
abbrev pub drilling : Settings → Plan → Losses → ℕ → Behaviour
drilling settings plan losses max = record {
  is_answer = IsStreamAnswer settings.packets max;
  gains = DrillsFor settings plan losses max;
  part = λ {K} input lanes lanes' written out out'. DrillsPart settings plan losses max input lanes lanes' written out out';
  stops = λ answer input lanes lanes'.
      IfSome input (λ bytes. (payloads : List (List ℕ)) (end : StreamEnding) → IsCut settings.packets max bytes payloads end
      → StopsLanes plan answer (records_sent settings losses payloads) lanes lanes');
  at_read = λ input now lanes lanes'.
      IfSome input (λ bytes. (payloads : List (List ℕ)) (end : StreamEnding) → IsCut settings.packets max bytes payloads end
      → LeavesAtRead plan (records_sent settings losses payloads) lanes lanes');
  comes_back = λ answer input lanes lanes' written written'.
      IfSome input (λ bytes. IsFault answer ⊎ DrillComesBack settings plan losses max answer bytes lanes lanes');
  reads = ReadsStream max;
  reads_all = EndsStream;
  may_have_failed_to_read = MayHaveFailedBeside (growth_of plan);
  is_no_input = λ bytes. ⊥;
  reads_nothing = ⊥;
  writes_nothing = ⊥;
  makes_no_lane = ⊥;
  writes_last = ⊥;
}
