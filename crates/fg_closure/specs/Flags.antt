-- Flags of successive positions, and the slots of live equations, for a search of what follows. No public contract cites these
-- but through what is found.
use Rattle.std.specs.Prelude.{◌≡◌, ◌≢◌, ◌⊎◌, ◌+◌, ◌-◌, ◌*◌, ◌<◌, ◌≤◌, ℕ, Bool, true, false, List, Option, Some, None, IsSome, slice_index_or, slice_set}
use Rattle.std.specs.List.{Contains}
use Rattle.std.specs.FinMap.{get}
use Rattle.slab.specs.Slab.{Slab}
use Rattle.fg_shape.specs.declared.Shape.{Shape}
use Rattle.fg_shape.specs.Shape.{IsShape, slots_of, position_limit}
use Rattle.fg_peel.specs.declared.Line.{Line}
use Rattle.fg_peel.specs.Slots.{lines_of}
use Rattle.fg_playout.specs.State.{State, Live, known}
use Rattle.fg_playout.specs.Solution.{InClosure}
use Rattle.fg_playout.specs.Facts.{Holds}
use Rattle.fg_closure.specs.declared.search.LineSlots.{LineSlots}
use Rattle.fg_closure.specs.declared.search.Lacking.{Lacking}
use Rattle.fg_closure.specs.declared.search.Lacking.TheVariants.{Nothing, One, Several}

-- A position is flagged, where the first of the flags is for the position `first` and each other one for the next.
abbrev pub IsFlagged : ℕ → List Bool → ℕ → Type 0
IsFlagged first flags position = (first ≤ position) × (slice_index_or flags (position - first) false ≡ true)

-- The positions that a line speaks of.
abbrev pub slots_at : LineSlots → List ℕ
slots_at line = slots_of line.base line.shape.offset line.shape.na

-- Its base and its shape.
abbrev pub rule_at : LineSlots → ℕ × Shape
rule_at line = (line.base, line.shape)

-- The line is that of the live equation which has this place.
pub record IsLineAt (desk : State) (place : ℕ) (line : LineSlots) : Type 0 where
  pub live : Live
  pub listed : get desk.equations line.serial ≡ Some live
  pub placed : live.place ≡ place
  pub base_is : line.base ≡ live.equation.base
  pub offset_is : line.shape.offset ≡ live.equation.offset
  pub count_is : line.shape.na ≡ live.equation.count

-- The line has a shape that is read, and each of its slots is one of `count` positions from `first` on.
pub record HasFlags (first count : ℕ) (line : LineSlots) : Type 0 where
  pub shape : IsShape line.shape.offset line.shape.na
  pub base : line.base ≤ position_limit
  pub from : first ≤ line.base
  pub upto : line.base + (line.shape.na - 1) * line.shape.offset < first + count

-- That is so of the line at each place.
abbrev pub AllHaveFlags : ℕ → ℕ → List (Option LineSlots) → Type 0
AllHaveFlags first count lines =
    (place : ℕ) (line : LineSlots) → slice_index_or lines place None ≡ Some line → HasFlags first count line

-- Which of these positions are not among those with `P`: none, just one, or at least these two.
abbrev pub AreWithout : (ℕ → Type 0) → List ℕ → Lacking → Type 0
AreWithout P slots Nothing = (slot : ℕ) → Contains slots slot → P slot
AreWithout P slots (One slot) =
    Contains slots slot × (¬ P slot) × ((other : ℕ) → Contains slots other → other ≢ slot → P other)
AreWithout P slots (Several one other) =
    Contains slots one × Contains slots other × (one ≢ other) × (¬ P one) × (¬ P other)

-- The flags after the one missing slot of a line is flagged, where it was just one.
abbrev pub IsFilled : ℕ → List Bool → Lacking → List Bool → Type 0
IsFilled first old (One position) new = new ≡ slice_set old (position - first) true
IsFilled first old Nothing new = new ≡ old
IsFilled first old (Several one other) new = new ≡ old

-- Nothing follows from a line: all its slots are flagged, or two of them aren't.
abbrev pub NothingFollows : ℕ → List Bool → LineSlots → Type 0
NothingFollows first flags line =
    AreWithout (IsFlagged first flags) (slots_at line) Nothing
    ⊎ ((one : ℕ) × (other : ℕ) × AreWithout (IsFlagged first flags) (slots_at line) (Several one other))

-- The flags of a desk on the way to its closure: the known positions are flagged, and no others than those of the closure.
pub record IsOnTheWay (desk : State) (first : ℕ) (table : List (Option LineSlots)) (flags : List Bool) : Type 0 where
  pub facts : Holds desk
  pub lines : (place : ℕ) (line : LineSlots) → slice_index_or table place None ≡ Some line → IsLineAt desk place line
  pub given : (position : ℕ) → IsSome (known desk position) → IsFlagged first flags position
  pub within : (position : ℕ) → IsFlagged first flags position → InClosure desk position

-- The slots of a live line.
abbrev pub slots_of_line : Line → LineSlots
slots_of_line line = record { serial = line.serial; base = line.base; shape = line.shape }

-- The lines of a slab are copied, each to its place. Another place has what it had.
pub record AreCopied (slab : Slab Line) (old new : List (Option LineSlots)) : Type 0 where
  pub was :
      (place : ℕ) (copy : LineSlots) → slice_index_or new place None ≡ Some copy
      → (slice_index_or old place None ≡ Some copy)
      ⊎ ((line : Line) × Contains (lines_of slab) line × (line.place ≡ place) × (copy ≡ slots_of_line line))
  pub copied : (line : Line) → Contains (lines_of slab) line → IsSome (slice_index_or new line.place None)
  pub kept : (place : ℕ) → IsSome (slice_index_or old place None) → IsSome (slice_index_or new place None)

-- A position has a flag, whose number is `start` or greater and below `end`, and it is as wanted.
pub record IsTold (first start end : ℕ) (flags : List Bool) (wanted : Bool) (position : ℕ) : Type 0 where
  pub from : first + start ≤ position
  pub upto : position < first + end
  pub flag : slice_index_or flags (position - first) false ≡ wanted
