-- Where a fault stops a repair. This project's own.
use Rattle.std.specs.Prelude.{◌≡◌, ◌⊎◌, ◌+◌, ◌<◌, ◌≤◌, ◌==◌, ⊤, ℕ, List, [], ◌++◌, Option, None, Some, IfSome, if◌then◌else◌, length, take}
use Rattle.std.specs.List.{AllZip, Contains}
use Rattle.fg_io.specs.Prefix.{IsPrefix}
use Rattle.fg_io.specs.Outlet.{Lanes}
use Rattle.fg_trace.specs.declared.step.Finish.{Finish}
use Rattle.fg_trace.specs.declared.step.Finish.TheVariants as finish
use Rattle.fg_trace.specs.Trace.{Record, Ending, IsLongest, IsTrace, magic}
use Rattle.fg_flows.specs.declared.Plan.{Plan}
use Rattle.fg_flows.specs.Plan.{playout_of}
use Rattle.fg_shape.specs.Playout.{Playout}
use Rattle.fg_playout.specs.declared.reply.Reply.{Reply}
use Rattle.fg_playout.specs.State.{State, opening}
use Rattle.fg_playout.specs.Play.{Play}
use Rattle.fg_playout.specs.Run.{Arrival, TakesAll}
use Rattle.fg_results.specs.Flow.{FlowResult, IsFlowResult, Arrives, records_of, lane_of}
use Rattle.fg_results.specs.Lanes.{PutsAll}

-- What a flow's plays have shown once these records were taken, and before its flush.
pub record HasShown (playout : Playout) (flow : ℕ) (records : List Record) (bytes : List ℕ) : Type 0 where
  pub arrivals : List Arrival
  pub plays : List Play
  pub replies : List (Option Reply)
  pub state : State
  pub arrive : AllZip (Arrives flow) (records_of flow records) arrivals
  pub takes : TakesAll (opening playout) arrivals plays replies state
  pub bytes_are : bytes ≡ lane_of plays

-- The whole lane of a flow.
pub record HasLane (playout : Playout) (flow : ℕ) (records : List Record) (bytes : List ℕ) : Type 0 where
  pub result : FlowResult
  pub is_result : IsFlowResult playout records flow result
  pub bytes_are : bytes ≡ result.lane

-- How the lanes grow: as each record is taken, or as each batch of records is.
pub data Growth : Type 0 where
  ByRecord : Growth
  ByBatch : Growth

-- The lanes of a repair without workers grow record by record, and with workers batch by batch.
abbrev pub growth_of : Plan → Growth
growth_of plan = if plan.workers == 0 then ByRecord else ByBatch

-- How far a repair has come: the lanes of so many flows were made; or all were, and so many records were taken; or a batch
-- of records was run too, from the first so many records up to the next so many, and so many flows have put what they show
-- of it; or all records were taken, and so many flows were flushed. Flows are made, put and flushed in their order.
pub data Stage : Type 0 where
  Making : ℕ → Stage
  Taking : ℕ → Stage
  Emptying : (done first next : ℕ) → Stage
  Flushing : ℕ → Stage

abbrev pub next_stage : Stage → Stage
next_stage (Making n) = Making (n + 1)
next_stage (Taking n) = Taking (n + 1)
next_stage (Emptying done first next) = Emptying (done + 1) first next
next_stage (Flushing n) = Flushing (n + 1)

-- A repair whose lanes grow so may stop there with this answer: between the flows of a batch only where they grow batch by batch,
-- and only where a put failed.
abbrev pub MayStopAt : Growth → Finish → Stage → Type 0
MayStopAt ByRecord answer (Making n) = ⊤
MayStopAt ByRecord answer (Taking n) = ⊤
MayStopAt ByRecord answer (Emptying done first next) = ⊥
MayStopAt ByRecord answer (Flushing n) = ⊤
MayStopAt ByBatch answer (Making n) = ⊤
MayStopAt ByBatch answer (Taking n) = ⊤
MayStopAt ByBatch answer (Emptying done first next) = (answer ≡ finish.WriteFault) × (first ≤ next)
MayStopAt ByBatch answer (Flushing n) = ⊤

-- No lane is broken there: after a fault of reading, and, where lanes grow batch by batch, after want of memory while records are
-- taken, since nothing is put of the batch for which there was none.
abbrev pub TakesInBatches : Growth → Stage → Type 0
TakesInBatches growth (Making n) = ⊥
TakesInBatches ByRecord (Taking n) = ⊥
TakesInBatches ByBatch (Taking n) = ⊤
TakesInBatches growth (Emptying done first next) = ⊥
TakesInBatches growth (Flushing n) = ⊥

abbrev pub LeavesWhole : Growth → Finish → Stage → Type 0
LeavesWhole growth answer stage =
    (answer ≡ finish.ReadFault) ⊎ ((answer ≡ finish.Memory) × TakesInBatches growth stage)

-- The flows whose lanes are made.
abbrev pub made_at : Plan → Stage → List ℕ
made_at plan (Making n) = take n plan.table
made_at plan (Taking n) = plan.table
made_at plan (Emptying done first next) = plan.table
made_at plan (Flushing n) = plan.table

-- What a flow's lane has gained at a stage, exactly.
abbrev pub HasGained : Plan → List Record → Stage → ℕ → List ℕ → Type 0
HasGained plan records (Making n) flow bytes = bytes ≡ []
HasGained plan records (Taking n) flow bytes = HasShown (playout_of plan) flow (take n records) bytes
HasGained plan records (Emptying done first next) flow bytes =
    (Contains (take done plan.table) flow × HasShown (playout_of plan) flow (take next records) bytes)
    ⊎ ((¬ Contains (take done plan.table) flow) × HasShown (playout_of plan) flow (take first records) bytes)
HasGained plan records (Flushing n) flow bytes =
    (Contains (take n plan.table) flow × HasLane (playout_of plan) flow records bytes)
    ⊎ ((¬ Contains (take n plan.table) flow) × HasShown (playout_of plan) flow records bytes)

-- The bytes are such bytes and then a part of what comes next.
pub record LiesBetween (Are Next : List ℕ → Type 0) (bytes : List ℕ) : Type 0 where
  pub first : List ℕ
  pub are : Are first
  pub begins : IsPrefix first bytes
  pub next : (more : List ℕ) → Next more → IsPrefix bytes more

-- What a broken lane has gained at a stage: that, and a part of what the next stage adds.
abbrev pub HasGainedPart : Plan → List Record → Stage → ℕ → List ℕ → Type 0
HasGainedPart plan records stage flow bytes =
    LiesBetween (HasGained plan records stage flow) (HasGained plan records (next_stage stage) flow) bytes

-- A repair of these records, whose lanes grow so, stopped at a stage. Each flow whose lane is made has gained exactly what stands there, but for
-- one at most, at which a put failed or memory was wanting: it has gained that and a part of what comes next. Some faults leave no
-- such one. All other lanes are as they were.
pub record Stops
    (growth : Growth) (plan : Plan) (answer : Finish) (records : List Record) (before after : Option Lanes) : Type 0 where
  pub stage : Stage
  pub may : MayStopAt growth answer stage
  pub broken : Option ℕ
  pub unbroken : LeavesWhole growth answer stage → broken ≡ None
  pub pieces : List (List ℕ)
  pub gained : AllZip
      (λ flow piece. HasGained plan records stage flow piece
      ⊎ ((broken ≡ Some flow) × HasGainedPart plan records stage flow piece))
      (made_at plan stage) pieces
  pub puts : PutsAll before (made_at plan stage) pieces after

-- So does the repair of the input's trace.
abbrev pub StopsIn : Growth → Plan → Finish → Option (List ℕ) → Option Lanes → Option Lanes → Type 0
StopsIn growth plan answer input before after =
    IfSome input (λ bytes. (records : List Record) (end : Ending)
    → IsTrace bytes plan.max records end → Stops growth plan answer records before after)

-- Each flow's lane has gained exactly what these records show. All other lanes are as they were.
pub record LanesShow (plan : Plan) (records : List Record) (before after : Option Lanes) : Type 0 where
  pub pieces : List (List ℕ)
  pub shown : AllZip (λ flow piece. HasShown (playout_of plan) flow records piece) plan.table pieces
  pub puts : PutsAll before plan.table pieces after

-- What a failed read leaves, after which `now` is left of these bytes: the magic is not whole in what was read, and no lane was made; or
-- these records stand whole there, and no further one does, and the lanes have gained exactly what they show.
abbrev pub StandsAtRead : Plan → List ℕ → Option (List ℕ) → Option Lanes → Option Lanes → Type 0
StandsAtRead plan bytes now before after =
    (read rest : List ℕ) → now ≡ Some rest → bytes ≡ read ++ rest
    → ((length read < length magic) × (after ≡ before))
    ⊎ ((records : List Record) × IsLongest read plan.max records × LanesShow plan records before after)
