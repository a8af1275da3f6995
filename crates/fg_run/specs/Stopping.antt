-- Where a fault stops a repair for an answer: this project's own rule.
use Rattle.std.specs.Prelude.{◌≡◌, ℕ, List, Option, IfSome}
use Rattle.fg_io.specs.Outlet.{Lanes}
use Rattle.fg_trace.specs.declared.step.Finish.{Finish}
use Rattle.fg_trace.specs.Trace.{Record, Ending, IsTrace}
use Rattle.fg_flows.specs.declared.Plan.{Plan}
use Rattle.fg_results.specs.Stops.{Stops, growth_of}
use Rattle.fg_commands.specs.declared.ended.Why.{Why}
use Rattle.fg_commands.specs.Endings.{why_of_finish}

-- With this answer a repair of these records stopped at a stage where the plan lets it: each lane has gained exactly what was
-- shown up to there, but for the one that a put broke.
abbrev pub StopsLanes : Plan → Why → List Record → Option Lanes → Option Lanes → Type 0
StopsLanes plan answer records lanes lanes' =
    (finish : Finish) × (answer ≡ why_of_finish finish) × Stops (growth_of plan) plan finish records lanes lanes'

-- So did a repair of the trace in these bytes.
abbrev pub StopsTrace : Plan → Option (List ℕ) → Why → Option Lanes → Option Lanes → Type 0
StopsTrace plan trace answer lanes lanes' =
    IfSome trace (λ bytes. (records : List Record) (end : Ending) → IsTrace bytes plan.max records end
    → StopsLanes plan answer records lanes lanes')
