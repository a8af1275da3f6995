-- Where a repair stops for an answer.
use Rattle.std.proofs.Common.{ℕ, Option, None, Some, IfSome, List, refl}
use Rattle.fg_io.specs.Outlet.{Lanes}
use Rattle.fg_trace.specs.declared.step.Finish.{Finish}
use Rattle.fg_trace.specs.Finish.{IsFault as IsFinishFault}
use Rattle.fg_trace.specs.Trace.{Record, Ending, IsTrace}
use Rattle.fg_flows.specs.declared.Plan.{Plan}
use Rattle.fg_encode.specs.Stream.{StreamEnding, IsCut}
use Rattle.fg_shape.specs.declared.encoding.Losses.{Losses}
use Rattle.fg_shape.specs.declared.encoding.Settings.{Settings}
use Rattle.fg_results.specs.Stops.{Stops, growth_of}
use Rattle.fg_drill.specs.Drill.{records_sent}
use Rattle.fg_drill.proofs.Repairs.{nothing_stops}
use Rattle.fg_commands.specs.Ended.{IsFault}
use Rattle.fg_commands.specs.Endings.{why_of_finish}
use Rattle.fg_commands.proofs.Told.{finish_tells}
use Rattle.fg_run.specs.Stopping.{StopsLanes, StopsTrace}

pub finish_stops : (plan : Plan) (answer : Finish) (input : Option (List ℕ)) (lanes lanes' : Option Lanes)
    → (IsFinishFault answer → IfSome input (λ bytes. (records : List Record) (end : Ending) → IsTrace bytes plan.max records end → Stops (growth_of plan) plan answer records lanes lanes'))
    → IsFault (why_of_finish answer) → StopsTrace plan input (why_of_finish answer) lanes lanes'
finish_stops plan answer None lanes lanes' h fault = tt
finish_stops plan answer (Some bytes) lanes lanes' h fault = λ records end is. (answer, refl, h (finish_tells.fault_of answer fault) records end is)

-- nothing was made
pub stops_first : (plan : Plan) (answer : Finish) (records : List Record) (lanes : Option Lanes) → StopsLanes plan (why_of_finish answer) records lanes lanes
stops_first plan answer records lanes = (answer, refl, nothing_stops (growth_of plan) plan answer records lanes)

pub drill_stops_first : (settings : Settings) (plan : Plan) (losses : Losses) (max : ℕ) (answer : Finish) (input : Option (List ℕ)) (lanes : Option Lanes)
    → IfSome input (λ bytes. (payloads : List (List ℕ)) (end : StreamEnding) → IsCut settings.packets max bytes payloads end → StopsLanes plan (why_of_finish answer) (records_sent settings losses payloads) lanes lanes)
drill_stops_first settings plan losses max answer None lanes = tt
drill_stops_first settings plan losses max answer (Some bytes) lanes = λ payloads end cut. stops_first plan answer (records_sent settings losses payloads) lanes

pub trace_stops_first : (plan : Plan) (answer : Finish) (input : Option (List ℕ)) (lanes : Option Lanes) → StopsTrace plan input (why_of_finish answer) lanes lanes
trace_stops_first plan answer None lanes = tt
trace_stops_first plan answer (Some bytes) lanes = λ records end is. stops_first plan answer records lanes
