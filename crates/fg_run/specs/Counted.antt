-- What a call of the program counts of faults of the outside: this project's own.
use Rattle.std.specs.Prelude.{◌≡◌, ℕ, List, Ok}
use Rattle.fg_trace.specs.declared.step.Finish.TheVariants as finish
use Rattle.fg_results.specs.Counted.{CountsAhead}
use Rattle.fg_results.specs.Stops.{Growth, ByRecord, ByBatch}
use Rattle.fg_drill.specs.Drill.{Answer as Drilled, IsFault as IsDrillFault}
use Rattle.fg_commands.specs.declared.ended.Why.{Why}
use Rattle.fg_commands.specs.declared.ended.Why.TheVariants as why
use Rattle.fg_commands.specs.Ended.{IsFault}

-- The answers with which a fault of reading may have been counted, where a request's lanes grow so: record by record the one that
-- tells it, and batch by batch every fault, and want of memory.
abbrev pub MayHaveFailedBeside : Growth → Why → Type 0
MayHaveFailedBeside ByRecord answer = answer ≡ why.ReadFault
MayHaveFailedBeside ByBatch answer = IsFault answer

-- The same of a drill's own answers.
abbrev pub DrillMayHaveFailed : Growth → Drilled → Type 0
DrillMayHaveFailed ByRecord answer = answer ≡ Ok finish.ReadFault
DrillMayHaveFailed ByBatch answer = IsDrillFault answer

-- What a drill has counted whose lanes grow so.
abbrev pub DrillCounts : Growth → Drilled → List (ℕ × ℕ) → List (ℕ × ℕ) → Type 0
DrillCounts growth answer sources sinks =
    CountsAhead (DrillMayHaveFailed growth answer) (answer ≡ Ok finish.ReadFault) (answer ≡ Ok finish.WriteFault) sources sinks
