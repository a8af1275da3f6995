-- The steps of a reader. No public contract cites it.
use Rattle.std.specs.Prelude.{◌≡◌, ◌+◌, ◌<◌, ◌≤◌, ◌⊎◌, ℕ, Bool, true, false, Option, None, IfSome, IsSome, Err, List, [], ◌++◌, length, take, drop, ⊤}
use Rattle.std.specs.Io.KnownBytes.{IsAtEnd}
use Rattle.fg_io.specs.InputBuffer.{InputState, TakesMore}
use Rattle.fg_trace.specs.declared.header.TheConstants.{LARGEST}
use Rattle.fg_trace.specs.declared.reader.TheConstants.{PIECE}
use Rattle.fg_trace.specs.declared.reader.Found.{Found}
use Rattle.fg_trace.specs.declared.reader.Found.TheVariants.{Next, Ends}
use Rattle.fg_trace.specs.declared.step.TraceFault.TheVariants.{NotTrace}
use Rattle.fg_trace.specs.Header.{IsHeader}
use Rattle.fg_trace.specs.Reader.{Answer, ReaderState, ending_at}
use Rattle.fg_trace.specs.Reading.{most_held}
use Rattle.fg_trace.specs.Trace.{Record, StandsFirst, spelling}

-- The answer may be kept: before the magic that there is none, and after it the ending that is here.
abbrev pub IsKept : Bool → Answer → ℕ → ℕ → ℕ → Type 0
IsKept false (Err (NotTrace n)) max place count = ⊤
IsKept false _ max place count = ⊥
IsKept true answer max place count = answer ≡ ending_at max place count

-- What contracts see of a reader that has this buffer, at whose front so many bytes were answered, and the rest.
abbrev pub reader_of : InputState → ℕ → Bool → Option Answer → ReaderState
reader_of input answered started kept = record {
  max = input.max;
  started = started;
  place = input.place + answered;
  held = drop answered input.held;
  payload = drop 12 (take answered input.held);
  kept = kept;
}

-- The same where none were.
abbrev pub reader_at : InputState → Bool → Option Answer → ReaderState
reader_at input started kept = record {
  max = input.max;
  started = started;
  place = input.place;
  held = input.held;
  payload = [];
  kept = kept;
}

-- What a reader keeps true of them.
pub record IsReader (input : InputState) (answered : ℕ) (started : Bool) (kept : Option Answer) : Type 0 where
  pub longest : input.longest ≡ LARGEST
  pub piece : input.piece ≡ PIECE
  pub least : 8 ≤ input.max
  pub answered_held : answered ≤ length input.held
  pub within : input.place + answered ≤ input.max
  pub bounded : input.place + length input.held ≤ input.max + 1
  pub few : length input.held ≤ most_held
  pub front : started ≡ false → input.place + answered ≡ 0
  pub going : kept ≡ None → input.ended ≡ false
  pub quiet : IsSome kept → answered ≡ 0
  pub right : IfSome kept (λ answer. IsKept started answer input.max input.place (length input.held))

-- A reader has taken in bytes that the source gave, and let its payload go.
pub record TakesIn (old : ReaderState) (left : Option (List ℕ)) (new : ReaderState) (rest : Option (List ℕ)) : Type 0 where
  pub same : new ≡ record old { held = new.held; payload = [] }
  pub takes : TakesMore old.held left new.held rest

-- These bytes are held from a place on: so many, or one past the limit, or all that there are.
abbrev pub HoldsEnough : ℕ → ℕ → List ℕ → Option (List ℕ) → ℕ → Type 0
HoldsEnough max place held left want = (want ≤ length held) ⊎ ((max < place + length held) ⊎ IsAtEnd left)

-- The next record is whole and within the limit, and its header has these numbers.
pub record HoldsRecord (max place : ℕ) (held : List ℕ) (time port size : ℕ) : Type 0 where
  pub header : IsHeader held time port size
  pub whole : 12 + size ≤ length held
  pub within : place + (12 + size) ≤ max

-- No record stands next within the limit, and it is known whether the input goes past it.
pub record HoldsNone (max place : ℕ) (held : List ℕ) (left : Option (List ℕ)) : Type 0 where
  pub known : (max < place + length held) ⊎ IsAtEnd left
  pub none : IfSome left (λ rest. (r : Record) (after : List ℕ)
      → StandsFirst (held ++ rest) r after → max < place + length (spelling r))

-- So many bytes are held, and within the limit.
pub record Has (input : InputState) (want : ℕ) : Type 0 where
  pub enough : want ≤ length input.held
  pub within : input.place + want ≤ input.max
  pub going : input.ended ≡ false

-- So many aren't: the source goes past the limit, or it ends before. The answer is the ending that is here.
pub record Lacks (answer : Answer) (input : InputState) (left : Option (List ℕ)) (want : ℕ) : Type 0 where
  pub why : ((input.max < input.place + want) × (input.max < input.place + length input.held))
      ⊎ ((length input.held < want) × IsAtEnd left)
  pub is : answer ≡ ending_at input.max input.place (length input.held)

-- What is found next: a record, or none, and the ending that is here.
abbrev pub Finds : Found → InputState → Option (List ℕ) → Type 0
Finds (Next header) input left =
    HoldsRecord input.max input.place input.held header.time header.port header.size × (input.ended ≡ false)
Finds (Ends answer) input left =
    HoldsNone input.max input.place input.held left × (answer ≡ ending_at input.max input.place (length input.held))

-- A record was found.
abbrev pub IsRecord : Found → Type 0
IsRecord (Next header) = ⊤
IsRecord (Ends answer) = ⊥

-- The record at the front was answered.
abbrev pub after_record : ReaderState → ℕ → ReaderState
after_record reader size =
    record reader { place = reader.place + (12 + size); held = drop (12 + size) reader.held; payload = take size (drop 12 reader.held) }

-- The magic was found.
abbrev pub after_magic : ReaderState → ReaderState
after_magic reader = record reader { started = true; place = 8; held = drop 8 reader.held; payload = [] }
