-- Laws of drills and samples.
use Rattle.std.specs.Prelude.{◌≡◌, ◌⊎◌, ◌∷◌, ◌≤◌, ◌^◌, [], ℕ, List, Option, Some, IfSome}
use Rattle.std.specs.Option.{option_map}
use Rattle.fg_io.specs.Outlet.{Lanes}
use Rattle.fg_shape.specs.declared.encoding.Losses.{Losses}
use Rattle.fg_shape.specs.declared.encoding.Settings.{Settings}
use Rattle.fg_trace.specs.Trace.{Ending, Ended, IsTrace}
use Rattle.fg_encode.specs.Stream.{StreamEnding, IsCut}
use Rattle.fg_flows.specs.declared.Plan.{Plan}
use Rattle.fg_flows.specs.Plan.{PlanFits}
use Rattle.fg_shape.specs.Settings.{CanEncode}
use Rattle.fg_results.specs.Repair.{Outputs}
use Rattle.fg_drill.specs.Drill.{Answer, Drills, IsFault, StreamComesBack, answer_to}
use Rattle.fg_thin.specs.Drawn.{drawn_drops, sample_layout, sample_settings}
use Rattle.fg_shape.specs.Losses.{MayLose}
use Rattle.fg_thin.specs.Made.{made_stream}
use Rattle.fg_thin.specs.Thinned.{media_number}
use Rattle.fg_thin.specs.ThinnedSource.{thinned_trace}
use Rattle.fg_drill.specs.DrillSteps.{DrillsTrace}
use Rattle.fg_drill.specs.Repairs.{EncodingsComeBack}
use Rattle.fg_drill.specs.Sample.{SampleComesBack, Samples, losses_made, records_made, sample_sent}

-- The trace of what is sent of a drill's input.
abbrev pub trace_sent : Settings → Losses → ℕ → Option (List ℕ) → Option (List ℕ)
trace_sent settings losses max input = option_map (λ bytes. thinned_trace settings losses max bytes) input

-- What a repair of it gives is what a drill comes to.
abbrev pub RepairsAreDrills : Type 0
RepairsAreDrills =
    (settings : Settings) (plan : Plan) (losses : Losses) (max : ℕ) (answer : Answer) (input : Option (List ℕ))
    (lanes lanes' : Option Lanes) (written written' : Option (List ℕ))
    → CanEncode settings → plan.max ≡ 2 ^ 42 → max ≤ 2 ^ 40
    → IsFault answer
    ⊎ DrillsTrace plan settings.packets max input (trace_sent settings losses max input) answer lanes lanes' written written'
    → IsFault answer ⊎ Drills settings plan losses max answer input lanes lanes' written written'

-- A drill's answer is that to its stream.
abbrev pub DrillsAreExact : Type 0
DrillsAreExact =
    (settings : Settings) (plan : Plan) (losses : Losses) (max : ℕ) (answer : Answer) (input : Option (List ℕ))
    (lanes lanes' : Option Lanes) (written written' : Option (List ℕ))
    → IsFault answer ⊎ Drills settings plan losses max answer input lanes lanes' written written'
    → IfSome input (λ bytes. (payloads : List (List ℕ)) (end : StreamEnding) → IsCut settings.packets max bytes payloads end
    → IsFault answer ⊎ (answer ≡ answer_to end))

-- What a drill comes to brings its stream back.
abbrev pub DrillsComeBack : Type 0
DrillsComeBack =
    (settings : Settings) (plan : Plan) (losses : Losses) (max : ℕ) (answer : Answer) (input : Option (List ℕ))
    (lanes lanes' : Option Lanes) (written written' : Option (List ℕ))
    → CanEncode settings → PlanFits plan → plan.table ≡ settings.port ∷ [] → MayLose losses → max ≤ 2 ^ 40
    → IsFault answer ⊎ Drills settings plan losses max answer input lanes lanes' written written'
    → IfSome input (λ bytes. IsFault answer ⊎ StreamComesBack settings plan losses max answer bytes lanes lanes')

-- A sample has as many records as come before the media record of the next slot.
abbrev pub SamplesAreCounted : Type 0
SamplesAreCounted = (seed datagrams : ℕ) → records_made seed datagrams ≡ media_number sample_layout datagrams

-- What is sent of it is read as a trace.
abbrev pub SamplesAreTraces : Type 0
SamplesAreTraces =
    (seed datagrams loss : ℕ) (losses : Losses) → datagrams ≤ 20000
    → losses.drops ≡ drawn_drops seed loss (media_number sample_layout datagrams) → losses.every ≡ 0
    → IsTrace (thinned_trace sample_settings losses (2 ^ 40) (made_stream seed datagrams)) (2 ^ 42)
    (sample_sent seed datagrams loss) Ended

-- What a sample comes to brings the made stream back.
abbrev pub SamplesComeBack : Type 0
SamplesComeBack =
    (seed datagrams loss : ℕ) (plan : Plan) (lanes lanes' : Option Lanes) (written written' : Option (List ℕ))
    → datagrams ≤ 20000 → PlanFits plan → plan.table ≡ sample_settings.port ∷ []
    → MayLose (losses_made seed datagrams loss) → Samples seed datagrams loss plan lanes lanes' written written'
    → SampleComesBack seed datagrams loss plan lanes lanes'

-- What a repair comes to brings back each thinned encoding that the trace is.
abbrev pub RepairsComeBack : Type 0
RepairsComeBack =
    (plan : Plan) (bytes : List ℕ) (end : Ending) (lanes lanes' : Option Lanes) (written written' : Option (List ℕ))
    → Outputs plan end (Some bytes) lanes lanes' written written' → EncodingsComeBack plan bytes lanes lanes'
