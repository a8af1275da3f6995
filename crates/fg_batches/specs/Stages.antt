-- What each stage of a repair in batches has done. No public contract cites what stands here.
use Rattle.std.specs.Prelude.{◌≡◌, ◌+◌, ◌-◌, ◌<◌, ◌≤◌, ◌^◌, ◌++◌, ℕ, Bool, true, false, Option, None, Some, Result, Ok, Err, OnOk, List, [], ◌∷◌, All, length, slice_index, take}
use Rattle.std.specs.Borrow.{Bor, MutBor}
use Rattle.std.specs.Fn.{Shared}
use Rattle.std.specs.declared.alloc.AllocError.{AllocError}
use Rattle.std.specs.List.{AllZip, flat_map, slice_index_or}
use Rattle.fg_io.specs.declared.fault.Fault.{Fault}
use Rattle.fg_io.specs.declared.fault.Fault.TheVariants.{Read, Write, Memory}
use Rattle.fg_io.specs.Faults.{Counts, CountsFault}
use Rattle.fg_io.specs.Outlet.{Lanes}
use Rattle.fg_trace.specs.Reader.{ReaderState, StandsAfter}
use Rattle.fg_trace.specs.Reading.{HasReached, HoldsNext}
use Rattle.fg_trace.specs.Trace.{Record}
use Rattle.fg_flows.specs.declared.Plan.{Plan}
use Rattle.fg_flows.specs.Flows.{IsTable}
use Rattle.fg_flows.specs.Plan.{PlanFits}
use Rattle.fg_flows.specs.Sheaf.{Item, SheafState, items_of, no_items}
use Rattle.fg_report.specs.declared.tail.Tail.{Tail}
use Rattle.fg_engine.specs.declared.shelved.Shelved.{Shelved}
use Rattle.fg_engine.specs.Engine.{GrowAll, ReadsOn, told_finish}
use Rattle.fg_batches.specs.declared.gathering.Gathering.{Gathering}
use Rattle.fg_batches.specs.BatchView.{BatchView}
use Rattle.fg_batches.specs.Batches.{BreaksEmptying, CanRun, CanRunAll, HasRun, HaveExchanged, HaveRun, HoldsBatch, WaitFor, waiting}
use Rattle.fg_batches.specs.Gathering.{HasGathered, HasReadAll}

-- The records of batches, one batch after another.
abbrev pub all_of : List (List Record) → List Record
all_of batches = flat_map (λ batch. batch) batches

-- The first stage

-- A flow's records of batches, one batch after another.
abbrev pub items_in : List SheafState → ℕ → List Item
items_in [] flow = []
items_in (sheaf ∷ more) flow = items_of sheaf flow ++ items_in more flow

-- A batch is of so many flows. With those before it, it has few records of each.
pub record MayFollow (flows : ℕ) (before : List SheafState) (sheaf : SheafState) : Type 0 where
  pub long : length sheaf.items ≡ flows
  pub few : (k : ℕ) → k < flows → length (items_in (before ++ sheaf ∷ []) k) < 2 ^ 43

-- The reader stands right after these records; or they are all, and the trace ends so; or a read failed there, and no whole record is
-- held.
abbrev pub StandsAtEnd : Plan → Option (List ℕ) → Option (List ℕ) → ReaderState → Gathering → Option (Result Tail Fault) → List Record → Type 0
StandsAtEnd plan first now reader gathering None records =
    HasGathered plan first now reader records [] gathering × (reader.kept ≡ None)
StandsAtEnd plan first now reader gathering (Some (Ok tail)) records =
    HasReadAll plan first records gathering.other tail × HasReached (told_finish tail) reader now
StandsAtEnd plan first now reader gathering (Some (Err fault)) records =
    (fault ≡ Read) × StandsAfter reader first now records × (¬ HoldsNext reader)

-- What a failed read, once there is one, and no other thing counts.
abbrev pub CountsEnd : Option (Result Tail Fault) → ℕ × ℕ → Type 0
CountsEnd None count = count.1 ≡ count.0
CountsEnd (Some read) count = Counts read (count ∷ []) []

-- From the first record on the reader has read these batches. Its source had `left`, and has `now`.
pub record GivesBatches
    (plan : Plan) (left now : Option (List ℕ)) (count : ℕ × ℕ) (old new : ReaderState) (before after : Gathering)
    (end : Option (Result Tail Fault)) (sheaves : List SheafState) : Type 0 where
  pub fits : PlanFits plan
  pub begins : (first : Option (List ℕ)) × HasGathered plan first left old [] [] before
  pub came : (first : Option (List ℕ)) → HasGathered plan first left old [] [] before
      → (batches : List (List Record)) × AllZip (HoldsBatch plan) batches sheaves
      × StandsAtEnd plan first now new after end (all_of batches)
  pub far : ReadsOn plan.max old left new now
  pub free : after.sheaf ≡ no_items (length plan.table)
  pub max : new.max ≡ plan.max
  pub counts : CountsEnd end count

-- The second

-- What waits for a port's lane in rows, one row after another.
abbrev pub waiting_in : List (List Shelved) → ℕ → List ℕ
waiting_in [] port = []
waiting_in (row ∷ more) port = waiting row port ++ waiting_in more port

-- The flows have run these batches, and what each batch shows is in its row.
pub record RanRows
    (table : List ℕ) (old : List BatchView) (sheaves : List SheafState) (rows : List (List Shelved)) (new : List BatchView) : Type 0 where
  pub count : length new ≡ length old
  pub long : length rows ≡ length sheaves
  pub wait : All (WaitFor table) rows
  pub empty : (k : ℕ) (d : BatchView) → k < length old → (slice_index_or new k d).shelf ≡ []
  pub ran : (k : ℕ) (d : BatchView) → k < length old
      → HasRun (items_in sheaves k) (slice_index_or old k d)
      (record (slice_index_or new k d) { shelf = waiting_in rows (slice_index table k) })

-- The flows have run their records of the sheaf, and then have exchanged their shelves with these.
pub record HaveShown (sheaf : SheafState) (old new : List BatchView) (shelves shelves' : List Shelved) : Type 0 where
  pub mid : List BatchView
  pub run : HaveRun sheaf old mid
  pub changed : HaveExchanged mid new shelves shelves'

-- What runs batches may be called for flows that may run their records of one, with a shelf for each. Where it is Ok they have
-- run them, and what they show is on these shelves.
pub record RunsBatches
    {F L : Type 0} (seen : L → List BatchView)
    (g : Shared F (Bor SheafState × (MutBor L × (MutBor (List Shelved) × Unit {0})))
    (Result (Unit {0}) AllocError × (MutBor L × (MutBor (List Shelved) × Unit {0})))) (run : F) : Type 0 where
  pub may : (sheaf : Bor SheafState) (flows : MutBor L) (shelves : MutBor (List Shelved)) → CanRunAll sheaf.now (seen flows.now)
      → length shelves.now ≡ length (seen flows.now) → g.pre run (sheaf, (flows, (shelves, tt)))
  pub runs : (sheaf : Bor SheafState) (flows flows' : MutBor L) (shelves shelves' : MutBor (List Shelved)) (result : Result (Unit {0}) AllocError)
      → g.post run (sheaf, (flows, (shelves, tt))) (result, (flows', (shelves', tt)))
      → OnOk result (HaveShown sheaf.now (seen flows.now) (seen flows'.now) shelves.now shelves'.now)

-- The flows of a table have taken these batches, and made those rows of them: of each batch, but for the last where a flow found no
-- memory for it.
pub record HavePlayed
    (table : List ℕ) (old new : List BatchView) (took : List SheafState) (made : List (List Shelved)) (starved : Bool) : Type 0 where
  pub good : IsTable table
  pub count : length old ≡ length table
  pub fresh : (k : ℕ) (d : BatchView) → k < length old → CanRun (slice_index_or old k d).flow (2 ^ 43 - 1)
  pub at : (j : ℕ) → j ≤ length made → (flows : List BatchView) × RanRows table old (take j took) (take j made) flows
  pub last : starved ≡ false → RanRows table old took made new
  pub short : starved ≡ true → length took ≡ length made + 1

-- The third

-- The lanes have gained what waited in these rows; where a put failed, it did at the last row.
abbrev pub HaveGained : List ℕ → Option Lanes → Option Lanes → List (List Shelved) → Bool → Type 0
HaveGained table before after rows false = GrowAll before table (waiting_in rows) after
HaveGained table before after rows true =
    (front : List (List Shelved)) × (row : List Shelved) × (now : Option Lanes) × (rows ≡ front ++ row ∷ []) × WaitFor table row
    × GrowAll before table (waiting_in front) now × BreaksEmptying table row now after

abbrev pub CountsPut : Bool → ℕ × ℕ → Type 0
CountsPut false count = count.1 ≡ count.0
CountsPut true count = CountsFault count.0 count.1 × (count.0 ≤ count.1)

pub record PutsRows
    (table : List ℕ) (before after : Option Lanes) (count : ℕ × ℕ) (rows : List (List Shelved)) (broken : Bool) : Type 0 where
  pub gained : (plan : Plan) → PlanFits plan → plan.table ≡ table → HaveGained table before after rows broken
  pub counts : CountsPut broken count

-- All three

-- Of the faults the first in the order of the trace: a put is of what was made before the want of memory, and both are before the read
-- that failed.
abbrev pub answer_to : Option (Result Tail Fault) → (starved broken : Bool) → Result Tail Fault
answer_to end starved true = Err Write
answer_to end true false = Err Memory
answer_to None false false = Err Read
answer_to (Some read) false false = read

-- Where memory was wanting after that, unless a fault came before.
abbrev pub starved_answer : Result Tail Fault → Result Tail Fault
starved_answer (Ok tail) = Err Memory
starved_answer (Err fault) = Err fault
