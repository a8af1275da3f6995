-- How the records of a batch are gathered, ahead of the flows that run them. No public contract cites what stands here.
use Rattle.std.specs.Prelude.{◌≡◌, ◌⊎◌, ◌<◌, ◌^◌, ◌++◌, ℕ, Option, None, Some, IfSome, List, [], ◌∷◌, length}
use Rattle.fg_trace.specs.Reader.{ReaderState, StandsAfter}
use Rattle.fg_trace.specs.Trace.{Record, Ending, IsTrace}
use Rattle.fg_flows.specs.declared.Plan.{Plan}
use Rattle.fg_flows.specs.Flows.{IsPortOf}
use Rattle.fg_flows.specs.Sheaf.{HasRoom, with_item}
use Rattle.fg_report.specs.declared.tail.Tail.{Tail}
use Rattle.fg_results.specs.Repair.{others_of}
use Rattle.fg_engine.specs.Engine.{TellsTail}
use Rattle.fg_batches.specs.declared.gathering.Heading.{Heading}
use Rattle.fg_batches.specs.declared.gathering.Gathering.{Gathering}
use Rattle.fg_batches.specs.Batches.{HoldsBatch}

-- The record of this heading is in the sheaf too.
abbrev pub with_record : Gathering → Heading → List ℕ → Gathering
with_record gathering heading datagram = record gathering {
  sheaf = with_item gathering.sheaf heading.flow (record { kind = heading.kind; time = heading.time; payload = datagram });
}

-- What is left of the records that were read: the one that this heading tells, with this datagram.
abbrev pub IsLeft : Plan → Option Heading → List ℕ → List Record → Type 0
IsLeft plan None datagram left = left ≡ []
IsLeft plan (Some heading) datagram left =
    (r : Record) × (left ≡ r ∷ []) × IsPortOf plan.table r.port heading.flow heading.kind
    × (r.time ≡ heading.time) × (r.datagram ≡ datagram)

-- After these records come those of the batch, which are in the sheaf, and perhaps one more, for which it had no room. Those of
-- no flow are counted.
pub record HasKept (plan : Plan) (datagram : List ℕ) (records batch left : List Record) (gathering : Gathering) : Type 0 where
  pub holds : HoldsBatch plan batch gathering.sheaf
  pub is_left : IsLeft plan gathering.next datagram left
  pub other : gathering.other ≡ others_of plan.table ((records ++ batch) ++ left)

-- The record of this heading is in the sheaf, where there was room for it, and else it is left.
abbrev pub HasAdded : Heading → List ℕ → Gathering → Gathering → Type 0
HasAdded heading datagram old new =
    (HasRoom old.sheaf datagram × (new ≡ with_record old heading datagram))
    ⊎ ((¬ HasRoom old.sheaf datagram) × (new ≡ record old { next = Some heading }))

-- The reader stands after all these, and the datagram of the one that is left is the reader's.
pub record HasGathered
    (plan : Plan) (first now : Option (List ℕ)) (reader : ReaderState) (records batch : List Record) (gathering : Gathering) : Type 0 where
  pub left : List Record
  pub stands : StandsAfter reader first now ((records ++ batch) ++ left)
  pub kept : HasKept plan reader.payload records batch left gathering

-- These are all records of the trace, and it ends so. Those of no flow are so many.
pub record HasReadAll (plan : Plan) (first : Option (List ℕ)) (records : List Record) (count : ℕ) (tail : Tail) : Type 0 where
  pub end : Ending
  pub of_input : IfSome first (λ bytes. IsTrace bytes plan.max records end)
  pub tells : TellsTail end tail
  pub few : length records < 2 ^ 43
  pub other : count ≡ others_of plan.table records

-- With those of the batch, which are in the sheaf.
pub record GathersLast
    (plan : Plan) (first : Option (List ℕ)) (records batch : List Record) (gathering : Gathering) (tail : Tail) : Type 0 where
  pub holds : HoldsBatch plan batch gathering.sheaf
  pub none_left : gathering.next ≡ None
  pub all : HasReadAll plan first (records ++ batch) gathering.other tail
