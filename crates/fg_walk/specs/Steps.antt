-- How far a walk over a trace has come. No public contract cites what stands here.
use Rattle.std.specs.Prelude.{◌≡◌, ◌+◌, ◌<◌, ◌≤◌, ℕ, List, [], Option, None, IfSome, Ok, Err, length}
use Rattle.std.specs.Io.KnownBytes.{IsAtEnd}
use Rattle.fg_io.specs.declared.fault.Fault.{Fault}
use Rattle.fg_trace.specs.declared.step.Finish.{Finish}
use Rattle.fg_trace.specs.Finish.{ReadsAll, finish_of}
use Rattle.fg_trace.specs.Reached.{IsReadTo}
use Rattle.fg_trace.specs.Reader.{ReaderState, StandsAfter}
use Rattle.fg_trace.specs.Trace.{Record, Ending, IsTrace}
use Rattle.fg_walk.specs.Walk.{IsBegun, Walked, WalkedPart}

-- The reader stands behind the magic, of a trace of so many bytes at most.
pub record IsOpened (most : ℕ) (reader : ReaderState) (first now : Option (List ℕ)) : Type 0 where
  pub stands : StandsAfter reader first now []
  pub untold : reader.kept ≡ None
  pub limit : reader.max ≤ most
  pub bounded : reader.place + length reader.held ≤ reader.max + 1

-- The reader stands after the records that are told, and has told no ending.
pub record IsUnderway
    {A : Type 0} (most : ℕ) (HasTold : A → List Record → Option (List ℕ) → Option (List ℕ) → Type 0) (telling : A)
    (reader : ReaderState) (first now before after : Option (List ℕ)) : Type 0 where
  pub records : List Record
  pub stands : StandsAfter reader first now records
  pub untold : reader.kept ≡ None
  pub limit : reader.max ≤ most
  pub told : HasTold telling records before after

-- All records of the trace are told, this is the answer to its ending, and it was read for that.
pub record HasToldAll
    {A : Type 0} (most : ℕ) (HasTold : A → List Record → Option (List ℕ) → Option (List ℕ) → Type 0) (telling : A)
    (reader : ReaderState) (answer : Finish) (first now before after : Option (List ℕ)) : Type 0 where
  pub records : List Record
  pub few : length records < most
  pub end : Ending
  pub answer_is : answer ≡ finish_of end
  pub begun : IsBegun answer
  pub of_input : IfSome first (λ bytes. IsTrace bytes reader.max records end)
  pub read : IsReadTo reader.max (Ok answer) first now
  pub at_end : ReadsAll answer → IsAtEnd now
  pub told : HasTold telling records before after

-- All that is told of the trace is gained, and it was read for this answer.
pub record HasWalked
    {A : Type 0} (Whole : A → List Record → Ending → Option (List ℕ) → Option (List ℕ) → Type 0) (max : ℕ) (telling : A)
    (answer : Finish) (first now before after : Option (List ℕ)) : Type 0 where
  pub walked : Walked Whole telling max answer first before after
  pub read : IsReadTo max (Ok answer) first now
  pub at_end : ReadsAll answer → IsAtEnd now

-- What a fault leaves: a part of that is gained, and the trace was read no further than a byte past the limit.
pub record Breaks
    {G : Type 0} (Part : G → List Record → Option (List ℕ) → Option (List ℕ) → Type 0) (given : G) (max : ℕ)
    (first now before after : Option (List ℕ)) : Type 0 where
  pub part : WalkedPart Part given max first before after
  pub read : (fault : Fault) → IsReadTo max (Err fault) first now
