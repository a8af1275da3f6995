-- How far an input is read for an answer: this project's own rule.
use Rattle.std.specs.Prelude.{◌≡◌, ◌+◌, ◌<◌, ◌≤◌, ◌⊎◌, ℕ, ⊤, Option, Some, None, List, [], ◌++◌, length}
use Rattle.std.specs.Io.KnownBytes.{IsAtEnd}
use Rattle.fg_trace.specs.declared.step.Finish.{Finish}
use Rattle.fg_trace.specs.declared.step.Finish.TheVariants as finish
use Rattle.fg_trace.specs.Reader.{ReaderState}
use Rattle.fg_trace.specs.Trace.{Record, StandsFirst, spelling}

-- The most bytes that a reader holds.
abbrev pub most_held : ℕ
most_held = 327744

-- A trace was read as far as this answer needs: these bytes were read, and these are left. To its end; to the first byte
-- that differs from the magic, or to the end where there is none; past the limit. A fault needs nothing.
abbrev pub ReachesFor : ℕ → Finish → List ℕ → List ℕ → Type 0
ReachesFor max finish.Done read rest = rest ≡ []
ReachesFor max (finish.Cut n) read rest = rest ≡ []
ReachesFor max (finish.NotTrace n) read rest = ((n < length read) ⊎ (rest ≡ [])) × (length read ≤ most_held)
ReachesFor max (finish.TooLong n) read rest = max < length read
ReachesFor max finish.ReadFault read rest = ⊤
ReachesFor max finish.WriteFault read rest = ⊤
ReachesFor max finish.Memory read rest = ⊤

-- Of these bytes so many were read that `now` is left: as far as the answer needs, and never more than a byte past the
-- limit.
pub record IsReadFor (max : ℕ) (answer : Finish) (bytes : List ℕ) (now : Option (List ℕ)) : Type 0 where
  pub read : List ℕ
  pub rest : List ℕ
  pub now_is : now ≡ Some rest
  pub all : bytes ≡ read ++ rest
  pub reaches : ReachesFor max answer read rest
  pub bounded : length read ≤ max + 1

-- The same of a reader, and of what its source has left, whether or not that is told.
abbrev pub HasReached : Finish → ReaderState → Option (List ℕ) → Type 0
HasReached finish.Done reader left = IsAtEnd left
HasReached (finish.Cut n) reader left = IsAtEnd left
HasReached (finish.NotTrace n) reader left =
    ((n < reader.place + length reader.held) ⊎ IsAtEnd left) × (reader.place + length reader.held ≤ most_held)
HasReached (finish.TooLong n) reader left = reader.max < reader.place + length reader.held
HasReached finish.ReadFault reader left = ⊤
HasReached finish.WriteFault reader left = ⊤
HasReached finish.Memory reader left = ⊤

-- No ending was answered, and the record that stands next is held whole, and within the limit.
pub record HoldsNext (reader : ReaderState) : Type 0 where
  pub going : reader.kept ≡ None
  pub next : Record
  pub rest : List ℕ
  pub stands : StandsFirst reader.held next rest
  pub within : reader.place + length (spelling next) ≤ reader.max
