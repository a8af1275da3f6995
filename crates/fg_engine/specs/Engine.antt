-- How far a repair has come, over all flows. No public contract cites what stands here.
use Rattle.std.specs.Prelude.{◌≡◌, ◌+◌, ◌≤◌, ◌<◌, ◌^◌, ◌⊎◌, ℕ, Bool, true, false, Option, Some, IfSome, IsSome, Result, Ok, Err, List, [], ◌++◌, length, map, nat_lt, slice_index, take}
use Rattle.std.specs.List.{Contains, slice_index_or}
use Rattle.fg_io.specs.Outlet.{Lanes, lane_of, lane_bytes, WhereTold}
use Rattle.fg_trace.specs.declared.step.Finish.{Finish}
use Rattle.fg_trace.specs.declared.step.Finish.TheVariants as finish
use Rattle.fg_trace.specs.Finish.{finish_after}
use Rattle.fg_trace.specs.Reader.{ReaderState, StandsAfter}
use Rattle.fg_trace.specs.Trace.{Record, Ending, NotTrace, IsTrace}
use Rattle.fg_flows.specs.declared.Plan.{Plan}
use Rattle.fg_flows.specs.Plan.{PlanFits, playout_of}
use Rattle.fg_report.specs.declared.flow_sum.FlowSum.{FlowSum}
use Rattle.fg_report.specs.declared.tail.Tail.{Tail}
use Rattle.fg_report.specs.declared.tail.Tail.TheVariants as tail
use Rattle.fg_engine.specs.declared.engine.Engine.{Engine}
use Rattle.fg_io.specs.declared.fault.Fault.{Fault}
use Rattle.fg_io.specs.declared.fault.Fault.TheVariants.{Read}
use Rattle.fg_results.specs.Flow.{FlowResult, IsFlowResult}
use Rattle.fg_results.specs.Lanes.{OthersStay, PutsAll}
use Rattle.fg_results.specs.Repair.{AreResults, lanes_of, others_of, tail_of}
use Rattle.fg_engine.specs.View.{FlowView}
use Rattle.fg_engine.specs.Steps.{HasTaken}
use Rattle.fg_results.specs.Stops.{HasShown, LiesBetween, Flushing, HasGained, HasGainedPart, Growth, StandsAtRead, StopsIn}

-- The lanes

-- The port's lane has gained the piece, and is still there if it was.
pub record LaneGrown (before after : Lanes) (port : ℕ) (piece : List ℕ) : Type 0 where
  pub bytes : lane_bytes after port ≡ lane_bytes before port ++ piece
  pub kept : IsSome (lane_of before port) → IsSome (lane_of after port)

-- So has each port's lane, of what is told for the port. All others are as they were.
pub record LanesGrow (before : Lanes) (ports : List ℕ) (gained : ℕ → List ℕ) (after : Lanes) : Type 0 where
  pub lanes : (port : ℕ) → Contains ports port → LaneGrown before after port (gained port)
  pub others : OthersStay ports before after

abbrev pub GrowAll : Option Lanes → List ℕ → (ℕ → List ℕ) → Option Lanes → Type 0
GrowAll before ports gained after = WhereTold (λ old new. LanesGrow old ports gained new) before after

-- Where the outlet tells its lanes, each port has one.
abbrev pub AreThere : List ℕ → Option Lanes → Type 0
AreThere ports lanes = IfSome lanes (λ told. (port : ℕ) → Contains ports port → IsSome (lane_of told port))

-- While records are taken

-- One flow has taken its part of these records and has shown these bytes.
pub record FlowStands (plan : Plan) (records : List Record) (port : ℕ) (flow : FlowView) (lane : List ℕ) : Type 0 where
  pub port_is : flow.sum.port ≡ port
  pub playout_is : flow.state.playout ≡ playout_of plan
  pub taken : HasTaken (playout_of plan) port records flow.state flow.sum lane

-- So has each flow of the plan, and the records of no flow are counted.
pub record EngineStands {D : Type 0} (plan : Plan) (records : List Record) (engine : Engine D) (gained : ℕ → List ℕ) : Type 0 where
  pub count : length engine.flows.items ≡ length plan.table
  pub flows : (k : ℕ) (d : FlowView) → k < length plan.table
      → FlowStands plan records (slice_index plan.table k) (slice_index_or engine.flows.items k d) (gained (slice_index plan.table k))
  pub other : engine.other ≡ others_of plan.table records

-- It stands so after few records.
pub record IsRunning {D : Type 0} (plan : Plan) (engine : Engine D) : Type 0 where
  pub records : List Record
  pub gained : ℕ → List ℕ
  pub stands : EngineStands plan records engine gained
  pub few : length records < 2 ^ 43

-- It stands so, and each flow's lane is there and has gained what the flow has shown.
pub record HasCome {D : Type 0} (plan : Plan) (records : List Record) (engine : Engine D) (before after : Option Lanes) : Type 0 where
  pub gained : ℕ → List ℕ
  pub stands : EngineStands plan records engine gained
  pub grow : GrowAll before plan.table gained after
  pub there : AreThere plan.table after

-- A fault came after these records, before the next was taken: each flow's lane has gained what the flow has shown, but for
-- one that it broke, whose lane has gained a part of what is shown next.
pub record BreaksAfter
    (plan : Plan) (taken next : List Record) (broken : Option ℕ) (before after : Option Lanes) : Type 0 where
  pub gained : ℕ → List ℕ
  pub grow : GrowAll before plan.table gained after
  pub there : AreThere plan.table after
  pub exact : (flow : ℕ) → Contains plan.table flow
      → HasShown (playout_of plan) flow taken (gained flow)
      ⊎ ((broken ≡ Some flow)
      × LiesBetween (HasShown (playout_of plan) flow taken) (HasShown (playout_of plan) flow next) (gained flow))

-- The lanes of the first ports are there. Nothing else has changed.
pub record MakesFirst (ports : List ℕ) (before after : Option Lanes) : Type 0 where
  pub count : ℕ
  pub grow : GrowAll before (take count ports) (λ _. []) after
  pub there : AreThere (take count ports) after

-- What a fault leaves of the lanes of the input's trace, where they grow so and it is answered so.
pub record LanesStop (growth : Growth) (plan : Plan) (answer : Finish) (first : Option (List ℕ)) (before after : Option Lanes) : Type 0 where
  pub others : WhereTold (OthersStay plan.table) before after
  pub stops : StopsIn growth plan answer first before after

-- If the fault is of reading, the lanes have what the records show that were whole in what was read of the input before it.
abbrev pub StandsAtFault : Plan → Fault → Option (List ℕ) → Option (List ℕ) → Option Lanes → Option Lanes → Type 0
StandsAtFault plan fault first now before after = fault ≡ Read → IfSome first (λ bytes. StandsAtRead plan bytes now before after)

-- The reader stands after the records that the engine has taken.
pub record HasWalked {D : Type 0}
    (plan : Plan) (first now : Option (List ℕ)) (reader : ReaderState) (engine : Engine D) (before after : Option Lanes) : Type 0 where
  pub records : List Record
  pub stands : StandsAfter reader first now records
  pub come : HasCome plan records engine before after

-- No record was taken yet: the reader stands before the first.
pub record IsAtStart {D : Type 0}
    (plan : Plan) (first now : Option (List ℕ)) (reader : ReaderState) (engine : Engine D) (before after : Option Lanes) : Type 0 where
  pub stands : StandsAfter reader first now []
  pub come : HasCome plan [] engine before after

-- The reader stands after some records of a trace under this limit, and holds at most a byte past it.
pub record HasRead (max : ℕ) (reader : ReaderState) (first now : Option (List ℕ)) : Type 0 where
  pub records : List Record
  pub stands : StandsAfter reader first now records
  pub bounded : reader.place + length reader.held ≤ reader.max + 1
  pub limit : reader.max ≡ max

-- From one reader to another, each with what its source has left then: whichever trace the one has read of, so has the other.
abbrev pub ReadsOn : ℕ → ReaderState → Option (List ℕ) → ReaderState → Option (List ℕ) → Type 0
ReadsOn max old left new now = (first : Option (List ℕ)) → HasRead max old first left → HasRead max new first now

-- The trace is one, and ends so.
abbrev pub TellsTail : Ending → Tail → Type 0
TellsTail (NotTrace n) told = ⊥
TellsTail end told = told ≡ tail_of end

-- All records of the trace were taken, and it ends so.
pub record TookAll {D : Type 0}
    (plan : Plan) (first : Option (List ℕ)) (engine : Engine D) (tail : Tail) (before after : Option Lanes) : Type 0 where
  pub records : List Record
  pub end : Ending
  pub of_input : IfSome first (λ bytes. IsTrace bytes plan.max records end)
  pub tells : TellsTail end tail
  pub few : length records < 2 ^ 43
  pub come : HasCome plan records engine before after

-- At the end

-- One flow is flushed or not.
abbrev pub FlowEnds : Bool → Plan → List Record → ℕ → FlowView → List ℕ → Type 0
FlowEnds true plan records port flow lane =
    IsFlowResult (playout_of plan) records port (record { lane = lane; sum = flow.sum })
FlowEnds false plan records port flow lane = FlowStands plan records port flow lane

-- The first flows are flushed.
pub record IsFlushing
    (plan : Plan) (records : List Record) (count : ℕ) (flows : List FlowView) (before after : Option Lanes) : Type 0 where
  pub gained : ℕ → List ℕ
  pub long : length flows ≡ length plan.table
  pub ends : (k : ℕ) (d : FlowView) → k < length plan.table
      → FlowEnds (nat_lt k count) plan records (slice_index plan.table k) (slice_index_or flows k d) (gained (slice_index plan.table k))
  pub grow : GrowAll before plan.table gained after
  pub there : AreThere plan.table after

-- The flows have taken some records, as a plan has it, and none is flushed.
pub record AreReady (flows : List FlowView) (lanes : Option Lanes) : Type 0 where
  pub plan : Plan
  pub records : List Record
  pub before : Option Lanes
  pub fits : PlanFits plan
  pub few : length records < 2 ^ 43
  pub flushing : IsFlushing plan records 0 flows before lanes

-- A fault came meanwhile: the lanes of the first flows are whole, and each other has gained what its flow has shown, but for
-- one that the fault broke.
pub record BreaksAtFlush (plan : Plan) (records : List Record) (before after : Option Lanes) : Type 0 where
  pub count : ℕ
  pub broken : Option ℕ
  pub gained : ℕ → List ℕ
  pub grow : GrowAll before plan.table gained after
  pub there : AreThere plan.table after
  pub exact : (flow : ℕ) → Contains plan.table flow
      → HasGained plan records (Flushing count) flow (gained flow)
      ⊎ ((broken ≡ Some flow) × HasGainedPart plan records (Flushing count) flow (gained flow))

-- The flows' counts.
abbrev pub sums_of : List FlowView → List FlowSum
sums_of flows = map (λ flow. flow.sum) flows

-- All flows are flushed: these are the results.
pub record HasEnded
    (plan : Plan) (records : List Record) (flows : List FlowView) (before after : Option Lanes) : Type 0 where
  pub results : List FlowResult
  pub are_results : AreResults plan records results
  pub sums : map (λ result. result.sum) results ≡ sums_of flows
  pub puts : PutsAll before plan.table (lanes_of results) after

-- The lanes are those of the input's trace.
pub record LanesWhole {D : Type 0}
    (plan : Plan) (first : Option (List ℕ)) (engine : Engine D) (tail : Tail) (before after : Option Lanes) : Type 0 where
  pub records : List Record
  pub end : Ending
  pub of_input : IfSome first (λ bytes. IsTrace bytes plan.max records end)
  pub tells : TellsTail end tail
  pub ended : HasEnded plan records engine.flows.items before after
  pub other : engine.other ≡ others_of plan.table records

-- The answer

-- To a trace with this tail.
abbrev pub told_finish : Tail → Finish
told_finish tail.Ended = finish.Done
told_finish (tail.Cut n) = finish.Cut n
told_finish (tail.TooLong n) = finish.TooLong n

-- After either.
abbrev pub answer_of : Result Finish Fault → Finish
answer_of (Ok finish) = finish
answer_of (Err fault) = finish_after fault
