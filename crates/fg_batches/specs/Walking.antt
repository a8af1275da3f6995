-- What the stages come to in the trace of the input. No public contract cites what stands here.
use Rattle.std.specs.Prelude.{◌≡◌, ◌+◌, ◌<◌, ◌⊎◌, ℕ, false, Option, Some, IfSome, List, [], length, slice_index, take}
use Rattle.std.specs.List.{Contains, slice_index_or}
use Rattle.fg_io.specs.Outlet.{Lanes}
use Rattle.fg_trace.specs.Reader.{ReaderState}
use Rattle.fg_trace.specs.Trace.{Record, Ending, IsTrace}
use Rattle.fg_flows.specs.declared.Plan.{Plan}
use Rattle.fg_flows.specs.Plan.{playout_of}
use Rattle.fg_report.specs.declared.tail.Tail.{Tail}
use Rattle.fg_results.specs.Stops.{HasShown, LiesBetween}
use Rattle.fg_engine.specs.View.{FlowView}
use Rattle.fg_engine.specs.Engine.{FlowStands, GrowAll, AreThere}
use Rattle.fg_batches.specs.BatchView.{BatchView}
use Rattle.fg_batches.specs.declared.gathering.Gathering.{Gathering}
use Rattle.fg_batches.specs.Gathering.{HasGathered, HasReadAll}

-- The flow, for whose lane nothing waits.
abbrev pub unshelved : FlowView → BatchView
unshelved flow = record { flow = flow; shelf = []; starved = false }

-- If the input is told, its trace begins with these records.
abbrev pub IsFront : Plan → Option (List ℕ) → List Record → Type 0
IsFront plan first records =
    IfSome first (λ bytes. (all : List Record) (end : Ending) → IsTrace bytes plan.max all end → take (length records) all ≡ records)

-- No record was taken yet: the reader stands before the first, and nothing waits for the lanes.
pub record IsReady
    (plan : Plan) (first now : Option (List ℕ)) (reader : ReaderState) (gathering : Gathering) (flows : List BatchView) (before after : Option Lanes) : Type 0 where
  pub gathered : HasGathered plan first now reader [] [] gathering
  pub gained : ℕ → List ℕ
  pub count : length flows ≡ length plan.table
  pub stand : (k : ℕ) (d : BatchView) → k < length plan.table
      → FlowStands plan [] (slice_index plan.table k) (slice_index_or flows k d).flow (gained (slice_index plan.table k))
  pub empty : (k : ℕ) (d : BatchView) → k < length plan.table → (slice_index_or flows k d).shelf ≡ []
  pub grow : GrowAll before plan.table gained after
  pub there : AreThere plan.table after

-- All records of the trace were run, and what they show was put. Those of no flow are so many.
pub record RanAll (plan : Plan) (first : Option (List ℕ)) (flows : List BatchView) (other : ℕ) (tail : Tail) (before after : Option Lanes) : Type 0 where
  pub records : List Record
  pub all : HasReadAll plan first records other tail
  pub gained : ℕ → List ℕ
  pub count : length flows ≡ length plan.table
  pub stand : (k : ℕ) (d : BatchView) → k < length plan.table
      → FlowStands plan records (slice_index plan.table k) (slice_index_or flows k d).flow (gained (slice_index plan.table k))
  pub grow : GrowAll before plan.table gained after
  pub there : AreThere plan.table after

-- What a flow's lane has gained where the first flows have put what they show of a batch, whose last record is the last of
-- `next`, and the others what they have shown before.
abbrev pub HasPut : Plan → List Record → List Record → ℕ → ℕ → List ℕ → Type 0
HasPut plan taken next done flow bytes =
    (Contains (take done plan.table) flow × HasShown (playout_of plan) flow next bytes)
    ⊎ ((¬ Contains (take done plan.table) flow) × HasShown (playout_of plan) flow taken bytes)

-- A fault came while the flows put what they show of a batch: the first flows have put it, but for one that the fault broke,
-- whose lane has gained a part of it.
pub record BreaksInBatch (plan : Plan) (taken next : List Record) (before after : Option Lanes) : Type 0 where
  pub done : ℕ
  pub broken : Option ℕ
  pub gained : ℕ → List ℕ
  pub grow : GrowAll before plan.table gained after
  pub there : AreThere plan.table after
  pub exact : (flow : ℕ) → Contains plan.table flow
      → HasPut plan taken next done flow (gained flow)
      ⊎ ((broken ≡ Some flow) × LiesBetween (HasPut plan taken next done flow) (HasPut plan taken next (done + 1) flow) (gained flow))
