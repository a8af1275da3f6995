-- How the notes at places tell which live equations are handed out and vouched for. No public contract cites it.
use Rattle.std.specs.Prelude.{◌≡◌, ◌⊎◌, ◌≤◌, ◌<◌, ◌&&◌, ◌==◌, ℕ, Bool, true, false, List, length, slice_index_or, Option, Some, None, IsSome, IsSomeAnd, if◌then◌else◌}
use Rattle.std.specs.List.{Contains}
use Rattle.std.specs.Ordering.{nat_cmp}
use Rattle.std.specs.FinMap.{get}
use Rattle.std.specs.FinSet.{FinSet, contains, insert, remove}
use Rattle.fg_words.specs.declared.Word.{Word}
use Rattle.fg_shape.specs.Shape.{IsShape, position_limit}
use Rattle.fg_peel.specs.declared.Line.{Line}
use Rattle.fg_peel.specs.declared.span.Missing.TheVariants.{One}
use Rattle.fg_peel.specs.Equation.{Equation, slots, IsComplete}
use Rattle.fg_peel.specs.Slots.{equation_of, IsMissing}
use Rattle.fg_playout.specs.State.{Live}
use Rattle.fg_buffer.specs.LiveEquations.{live_of}
use Rattle.fg_buffer.specs.BufferEntries.{positions_below}
use Rattle.fg_desk.specs.Contents.{Contents, known_in, shared_at}
use Rattle.fg_core.specs.Board.{BoardState, IsOpen, IsCurrent, equation_with}
use Rattle.fg_core.specs.Work.{HaveRoom}
use Rattle.fg_core.specs.declared.key.Key.{Key}
use Rattle.fg_core.specs.declared.fate.Asked.{Asked}
use Rattle.fg_core.specs.declared.fate.Asked.TheVariants as asked
use Rattle.fg_core.specs.declared.notes.Note.{Note}

abbrev pub no_note : Note
no_note = record { serial = 0; epoch = 0; vouched = false; handed_out = false }

abbrev pub note_at : List Note → ℕ → Note
note_at notes place = slice_index_or notes place no_note

-- The note is this equation's, and says so.
abbrev pub says : (Note → Bool) → ℕ → ℕ → Note → Bool
says which epoch serial note = (note.serial == serial && note.epoch == epoch) && which note

-- What the note at the place of a live equation says of it.
abbrev pub is_noted : (Note → Bool) → List Note → ℕ → ℕ → Option Live → Bool
is_noted which notes epoch serial None = false
is_noted which notes epoch serial (Some live) = says which epoch serial (note_at notes live.place)

-- The equations of which notes say so.
abbrev pub noted : (Note → Bool) → List Note → Contents → FinSet nat_cmp
noted which notes desk =
    positions_below desk.state.admitted
    (λ serial. is_noted which notes desk.epoch serial (get desk.state.equations serial))

abbrev pub is_vouched : Note → Bool
is_vouched note = note.vouched

abbrev pub is_handed_out : Note → Bool
is_handed_out note = note.handed_out

abbrev pub board_of : Contents → List Note → BoardState
board_of desk notes =
    record { desk = desk; vouched = noted is_vouched notes desk; handed_out = noted is_handed_out notes desk }

-- An equation is handed out, or handed out no more.
abbrev pub with_handed : BoardState → ℕ → Bool → BoardState
with_handed board serial out = record board {
  handed_out = (if out then insert board.handed_out serial else remove board.handed_out serial);
}

-- Each note that says something is of an equation that was admitted, and of this epoch or an earlier one.
abbrev pub ArePast : List Note → ℕ → ℕ → Type 0
ArePast notes admitted epoch =
    (place : ℕ) → ((note_at notes place).vouched ≡ true) ⊎ ((note_at notes place).handed_out ≡ true)
    → ((note_at notes place).serial < admitted) × ((note_at notes place).epoch ≤ epoch)

-- Each bare position is a kept one.
abbrev pub BareAreKept : Contents → Type 0
BareAreKept desk = (position : ℕ) → contains desk.bare position ≡ true → IsSome (get desk.state.kept position)

-- What is true of a desk and its notes.
pub record AreKept (desk : Contents) (notes : List Note) : Type 0 where
  pub past : ArePast notes desk.state.admitted desk.epoch
  pub bare : BareAreKept desk

-- How open equations are looked for

-- A live line.
pub record IsWithin (desk : Contents) (line : Line) : Type 0 where
  pub live_is : get desk.state.equations line.serial ≡ Some (live_of line)
  pub shape : IsShape line.shape.offset line.shape.na
  pub base : line.base ≤ position_limit

-- No word known at its slots stands alone.
abbrev pub AreShared : Contents → Line → Type 0
AreShared desk line =
    (slot : ℕ) → Contains (slots (equation_of line)) slot → IsSome (known_in desk slot) → contains desk.bare slot ≡ false

abbrev pub IsOpenLine : Contents → List Note → Line → Type 0
IsOpenLine desk notes line = IsOpen (board_of desk notes) line.serial (live_of line)

-- The key's equation is open.
abbrev pub IsKeyOfOpen : BoardState → Key → Type 0
IsKeyOfOpen board key = (live : Live) × IsOpen board key.serial live × IsCurrent board key live

-- It has work, with a share of each word known at its slots.
pub record IsReady (desk : Contents) (key : Key) (live : Live) : Type 0 where
  pub live_is : get desk.state.equations key.serial ≡ Some live
  pub place_is : live.place ≡ key.place
  pub epoch_is : key.epoch ≡ desk.epoch
  pub shared : (slot : ℕ) → Contains (slots live.equation) slot → contains desk.bare slot ≡ false
  pub work :
      ((slot : ℕ) × IsMissing (known_in desk) live.equation (One slot)) ⊎ IsComplete (known_in desk) live.equation

-- There is a key, of this serial number at most.
abbrev pub IsAtMost : Option Key → ℕ → Type 0
IsAtMost best serial = IsSomeAnd best (λ key. key.serial ≤ serial)

-- What a desk has at a line's slots, by their numbers.
pub record AreSharesAt (desk : Contents) (line : Line) (count : ℕ) (shares : List (Option Word)) : Type 0 where
  pub count_is : length shares ≡ count
  pub each :
      (j : ℕ) → j < count
      → slice_index_or shares j None ≡ shared_at desk (slice_index_or (slots (equation_of line)) j 0)
  pub rooms : HaveRoom shares

-- How an equation is asked for

-- A key's equation stands at its place.
abbrev pub IsStanding : Contents → Key → Live → Type 0
IsStanding desk key live = (get desk.state.equations key.serial ≡ Some live) × (live.place ≡ key.place)

-- An answer spells this equation.
abbrev pub IsSpelled : Equation → Asked → Type 0
IsSpelled equation (asked.Live base shape parity) = equation ≡ equation_with base shape parity
IsSpelled equation (asked.Gone mark epoch) = ⊥
