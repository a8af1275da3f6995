-- The batches of a repair with workers, which run the flows side by side. No public contract cites what stands here.
use Rattle.std.specs.Prelude.{◌≡◌, ◌==◌, ◌+◌, ◌<◌, ◌^◌, ◌++◌, ℕ, Option, List, [], ◌∷◌, length, slice_index, if◌then◌else◌}
use Rattle.std.specs.List.{AllZip, slice_index_or}
use Rattle.fg_io.specs.Outlet.{Lanes}
use Rattle.fg_io.specs.Prefix.{IsPrefix}
use Rattle.fg_trace.specs.Trace.{Record}
use Rattle.fg_shape.specs.Kind.{port_of}
use Rattle.fg_shape.specs.Playout.{PlayoutFits}
use Rattle.fg_flows.specs.declared.Plan.{Plan}
use Rattle.fg_flows.specs.Sheaf.{Item, SheafState, items_of}
use Rattle.fg_results.specs.Flow.{records_of}
use Rattle.fg_engine.specs.View.{FlowView}
use Rattle.fg_engine.specs.declared.shelved.Shelved.{Shelved}
use Rattle.fg_engine.specs.Steps.{HasTaken}
use Rattle.fg_engine.specs.Engine.{GrowAll}
use Rattle.fg_batches.specs.BatchView.{BatchView}

-- What a sheaf holds

-- The record is what the item tells, of the flow on this port.
pub record IsItemOf (flow : ℕ) (r : Record) (item : Item) : Type 0 where
  pub port : r.port ≡ port_of flow item.kind
  pub time : r.time ≡ item.time
  pub datagram : r.datagram ≡ item.payload

-- The items are the flow's records among these, in their order.
abbrev pub AreItemsOf : List Record → ℕ → List Item → Type 0
AreItemsOf records flow items = AllZip (IsItemOf flow) (records_of flow records) items

-- The sheaf has the records of each flow of the plan.
abbrev pub HoldsBatch : Plan → List Record → SheafState → Type 0
HoldsBatch plan batch sheaf = AllZip (AreItemsOf batch) plan.table sheaf.items

-- What a flow runs

-- A flow may run so many records more: with those that it has taken, they are fewer than a trace within the limits can have.
pub record CanRun (flow : FlowView) (count : ℕ) : Type 0 where
  pub records : List Record
  pub lane : List ℕ
  pub few : length records + count < 2 ^ 43
  pub taken : HasTaken flow.state.playout flow.sum.port records flow.state flow.sum lane
  pub fits : PlayoutFits flow.state.playout

-- A flow has taken these items, after the records that it had taken, and what its plays have shown waits on its shelf.
pub record HasRun (items : List Item) (old new : BatchView) : Type 0 where
  pub port : new.flow.sum.port ≡ old.flow.sum.port
  pub playout : new.flow.state.playout ≡ old.flow.state.playout
  pub run : (records more : List Record) (lane : List ℕ)
      → HasTaken old.flow.state.playout old.flow.sum.port records old.flow.state old.flow.sum lane
      → AllZip (IsItemOf old.flow.sum.port) more items
      → (piece : List ℕ) × (new.shelf ≡ old.shelf ++ piece)
      × HasTaken old.flow.state.playout old.flow.sum.port (records ++ more) new.flow.state new.flow.sum (lane ++ piece)

-- What waits for the lanes

-- What waits is for the lanes of these ports, in this order.
pub record WaitFor (table : List ℕ) (shelves : List Shelved) : Type 0 where
  pub long : length shelves ≡ length table
  pub ports : (k : ℕ) (d : Shelved) → k < length table → (slice_index_or shelves k d).port ≡ slice_index table k

-- The lane, for which nothing waits.
abbrev pub nothing_waits : ℕ → Shelved
nothing_waits port = record { port = port; shelf = [] }

-- What waits for the lane of this port: what is on the first shelf of it.
abbrev pub waiting : List Shelved → ℕ → List ℕ
waiting [] port = []
waiting (shelved ∷ more) port = if shelved.port == port then shelved.shelf else waiting more port

-- The lane, for which nothing waits any more.
abbrev pub emptied : Shelved → Shelved
emptied shelved = record shelved { shelf = [] }

-- A put failed while the shelves were emptied: the lanes of the first ports have gained all that waited for them, the next a
-- front of it, and the others nothing.
pub record BreaksEmptying (ports : List ℕ) (shelves : List Shelved) (before after : Option Lanes) : Type 0 where
  pub done : ℕ
  pub within : done < length ports
  pub gained : ℕ → List ℕ
  pub grow : GrowAll before ports gained after
  pub first : (k : ℕ) → k < done → gained (slice_index ports k) ≡ waiting shelves (slice_index ports k)
  pub broken : IsPrefix (gained (slice_index ports done)) (waiting shelves (slice_index ports done))
  pub others : (k : ℕ) → done < k → k < length ports → gained (slice_index ports k) ≡ []

-- Each flow has the shelf that waited, and what it had on its own waits now.
pub record HaveExchanged (flows flows' : List BatchView) (shelves shelves' : List Shelved) : Type 0 where
  pub flows_long : length flows' ≡ length flows
  pub shelves_long : length shelves' ≡ length shelves
  pub flows_are : (k : ℕ) (d : BatchView) (w : Shelved) → k < length flows
      → slice_index_or flows' k d ≡ record (slice_index_or flows k d) { shelf = (slice_index_or shelves k w).shelf }
  pub shelves_are : (k : ℕ) (d : BatchView) (w : Shelved) → k < length flows
      → slice_index_or shelves' k w ≡ record (slice_index_or shelves k w) { shelf = (slice_index_or flows k d).shelf }

-- How a batch is run

-- Each flow may run its records of the sheaf.
pub record CanRunAll (sheaf : SheafState) (flows : List BatchView) : Type 0 where
  pub count : length flows ≡ length sheaf.items
  pub each : (k : ℕ) (d : BatchView) → k < length flows → CanRun (slice_index_or flows k d).flow (length (items_of sheaf k))

-- Each flow has run its records of the sheaf.
pub record HaveRun (sheaf : SheafState) (old new : List BatchView) : Type 0 where
  pub count : length new ≡ length old
  pub each : (k : ℕ) (d : BatchView) → k < length old → HasRun (items_of sheaf k) (slice_index_or old k d) (slice_index_or new k d)
