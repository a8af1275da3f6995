-- The live equations of a desk, and which of them are settled.
use Rattle.std.specs.Prelude.{◌≡◌, ◌⊎◌, ◌<◌, ◌≤◌, ◌↔◌, ℕ, true, false, Option, Some, None, IsSome, IsTrue}
use Rattle.std.specs.List.{Contains}
use Rattle.std.specs.Ordering.{nat_cmp}
use Rattle.std.specs.FinMap.{FinMap, get, len, empty}
use Rattle.std.specs.FinSet as set
use Rattle.slab.specs.Slab.{Slab}
use Rattle.fg_words.specs.declared.Word.{Word}
use Rattle.fg_shape.specs.Shape.{IsShape, slots_of, position_limit}
use Rattle.fg_peel.specs.declared.Line.{Line}
use Rattle.fg_peel.specs.Equation.{slots, IsComplete}
use Rattle.fg_peel.specs.Slots.{equation_of, lines_of}
use Rattle.fg_peel.specs.Live.{Live, last_slot, live_limit, Survives}
use Rattle.fg_peel.specs.Words.{Words}
use Rattle.fg_buffer.specs.Watches.{WatchState, first_of}

-- The live equations by serial number, and the serial numbers of those that are settled: complete, and known to come
-- out.
pub record LiveState : Type 0 where
  pub live : FinMap nat_cmp Live
  pub settled : set.FinSet nat_cmp

-- Nothing is live.
abbrev pub no_equations : LiveState
no_equations = record { live = empty; settled = set.empty }

-- What a line is among the live ones.
abbrev pub live_of : Line → Live
live_of line = record { place = line.place; equation = equation_of line }

-- The line is live, under its serial number.
abbrev pub IsLiveLine : LiveState → Line → Type 0
IsLiveLine lines line = get lines.live line.serial ≡ Some (live_of line)

-- The lines of a slab are the live ones that are open.
abbrev pub AreOpen : LiveState → Slab Line → Type 0
AreOpen lines open_lines =
    (line : Line) → Contains (lines_of open_lines) line
    ↔ (IsLiveLine lines line × (set.contains lines.settled line.serial ≡ false))

-- The lines of a slab are the live ones that are settled.
abbrev pub AreSettled : LiveState → Slab Line → Type 0
AreSettled lines settled_lines =
    (line : Line) → Contains (lines_of settled_lines) line
    ↔ (IsLiveLine lines line × (set.contains lines.settled line.serial ≡ true))

-- The line stands in one of two slabs.
abbrev pub IsAmong : Slab Line → Slab Line → Line → Type 0
IsAmong first second line = Contains (lines_of first) line ⊎ Contains (lines_of second) line

-- No live equation that is open has this place.
abbrev pub NoneIsOpenAt : ℕ → LiveState → Type 0
NoneIsOpenAt place lines =
    (serial : ℕ) (live : Live) → get lines.live serial ≡ Some live → live.place ≡ place
    → IsTrue (set.contains lines.settled serial)

-- An open equation survives a play up to this mark exactly where its first watched position isn't before the mark.
abbrev pub SurviveAsWatched : ℕ → Words → WatchState → LiveState → Type 0
SurviveAsWatched mark kept watches lines =
    (serial : ℕ) (live : Live) → get lines.live serial ≡ Some live → set.contains lines.settled serial ≡ false
    → Survives mark kept live.equation ↔ (mark ≤ first_of watches live.place)

-- The same equations are live, and those are settled that were, or that have this place.
pub record SettlesAt (place : ℕ) (old new : LiveState) : Type 0 where
  pub live : new.live ≡ old.live
  pub settled :
      (serial : ℕ) → IsTrue (set.contains new.settled serial)
      ↔ (IsTrue (set.contains old.settled serial)
      ⊎ ((live : Live) × (get old.live serial ≡ Some live) × (live.place ≡ place)))

-- The same equations are live, and those are settled that were and are complete in these words.
pub record Reopens (words : ℕ → Option Word) (old new : LiveState) : Type 0 where
  pub live : new.live ≡ old.live
  pub settled :
      (serial : ℕ) → IsTrue (set.contains new.settled serial)
      ↔ (IsTrue (set.contains old.settled serial)
      × ((live : Live) × (get old.live serial ≡ Some live) × IsComplete words live.equation))

-- The words below the mark are kept at the slots of each settled equation that reaches to it.
abbrev pub SettledAreBased : ℕ → Words → LiveState → Type 0
SettledAreBased mark kept lines =
    (serial : ℕ) (live : Live) → IsTrue (set.contains lines.settled serial) → get lines.live serial ≡ Some live
    → mark ≤ last_slot live.equation
    → (slot : ℕ) → Contains (slots live.equation) slot → slot < mark → IsSome (get kept slot)

-- Those equations stay live that survive a play up to this mark, and those of them stay settled that were.
pub record Retires (mark : ℕ) (kept : Words) (old new : LiveState) : Type 0 where
  pub live :
      (serial : ℕ) (live : Live) → (get new.live serial ≡ Some live)
      ↔ ((get old.live serial ≡ Some live) × Survives mark kept live.equation)
  pub settled :
      (serial : ℕ) → IsTrue (set.contains new.settled serial)
      ↔ (IsTrue (set.contains old.settled serial) × IsSome (get new.live serial))

-- What is true of the equations of every such value.
pub record AreLive (lines : LiveState) : Type 0 where
  pub few : len lines.live ≤ live_limit
  pub shape :
      (serial : ℕ) (live : Live) → get lines.live serial ≡ Some live
      → IsShape live.equation.offset live.equation.count
  pub base : (serial : ℕ) (live : Live) → get lines.live serial ≡ Some live → live.equation.base ≤ position_limit
  pub place : (serial : ℕ) (live : Live) → get lines.live serial ≡ Some live → live.place < live_limit
  pub apart :
      (serial serial' : ℕ) (one other : Live) → get lines.live serial ≡ Some one → get lines.live serial' ≡ Some other
      → one.place ≡ other.place → serial ≡ serial'
  pub settled : (serial : ℕ) → IsTrue (set.contains lines.settled serial) → IsSome (get lines.live serial)

-- A slot of the equation of this base and shape is played, and its word isn't kept.
pub record IsLost (mark : ℕ) (kept : Words) (base offset count slot : ℕ) : Type 0 where
  pub listed : Contains (slots_of base offset count) slot
  pub played : slot < mark
  pub lost : get kept slot ≡ None
