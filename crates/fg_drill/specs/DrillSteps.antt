-- How far a drill has come. No public contract cites what stands here.
use Rattle.std.specs.Prelude.{◌≡◌, ◌⊎◌, ℕ, Bool, List, Option, Some, IfSome, Ok}
use Rattle.fg_io.specs.Outlet.{Lanes}
use Rattle.fg_trace.specs.declared.step.Finish.TheVariants as finish
use Rattle.fg_trace.specs.Trace.{Record, IsTrace, Ending, Ended, NotTrace, Cut, TooLong}
use Rattle.fg_flows.specs.declared.Plan.{Plan}
use Rattle.fg_encode.specs.Stream.{StreamEnding}
use Rattle.fg_results.specs.Repair.{Outputs}
use Rattle.fg_drill.specs.Drill.{Answer, IsFault, LeavesAtRead, StopsLanes, answer_to}
use Rattle.fg_thin.specs.ThinnedSource.{EndsFor, ending_told}

-- The answer is that of the stream's ending, where it tells its bytes, and else that of some ending.
abbrev pub IsEndingsAnswer : ℕ → ℕ → Option (List ℕ) → Answer → Type 0
IsEndingsAnswer packets max stream answer =
    (end : StreamEnding) × (answer ≡ answer_to end)
    × IfSome stream (λ bytes. EndsFor end packets max bytes)

-- After a whole trace it is that answer, else that to the trace's ending.
abbrev pub FollowsTrace : Ending → ℕ → ℕ → Option (List ℕ) → Answer → Type 0
FollowsTrace Ended packets max stream answer = IsEndingsAnswer packets max stream answer
FollowsTrace (NotTrace n) packets max stream answer = answer ≡ Ok (finish.NotTrace n)
FollowsTrace (Cut n) packets max stream answer = answer ≡ Ok (finish.Cut n)
FollowsTrace (TooLong n) packets max stream answer = answer ≡ Ok (finish.TooLong n)

-- The outputs have gained what a repair gives for the trace, and the answer follows it.
abbrev pub DrillsTrace :
    Plan → ℕ → ℕ → Option (List ℕ) → Option (List ℕ) → Answer → Option Lanes → Option Lanes → Option (List ℕ)
    → Option (List ℕ) → Type 0
DrillsTrace plan packets max stream trace answer lanes lanes' written written' =
    (end : Ending) × Outputs plan end trace lanes lanes' written written' × FollowsTrace end packets max stream answer

-- The answer is that of the ending that the source has told.
abbrev pub TellsEnding : Answer → Bool → StreamEnding → Type 0
TellsEnding answer told fault = (end : StreamEnding) × (answer ≡ answer_to end) × (ending_told told fault ≡ Some end)

-- Where the trace was whole, every answer but a fault's is.
abbrev pub TellsAll : Plan → Option (List ℕ) → Answer → Bool → StreamEnding → Type 0
TellsAll plan trace answer told fault =
    IfSome trace (λ bytes. (records : List Record) → IsTrace bytes plan.max records Ended
    → IsFault answer ⊎ TellsEnding answer told fault)

-- A fault, or want of memory, stopped the repair of the trace at a stage.
abbrev pub StopsTrace : Plan → Option (List ℕ) → Answer → Option Lanes → Option Lanes → Type 0
StopsTrace plan trace answer lanes lanes' =
    IfSome trace (λ bytes. (records : List Record) (end : Ending) → IsTrace bytes plan.max records end
    → StopsLanes plan answer records lanes lanes')

-- A read failed while the trace was repaired, or behind it.
abbrev pub LeavesTrace : Plan → Option (List ℕ) → Option Lanes → Option Lanes → Type 0
LeavesTrace plan trace lanes lanes' =
    IfSome trace (λ bytes. (records : List Record) → IsTrace bytes plan.max records Ended → LeavesAtRead plan records lanes lanes')
