-- A span of entries with the words of successive positions, and the live lines: which words and equations they stand for.
use Rattle.std.specs.Prelude.{◌≡◌, ◌≢◌, ◌⊎◌, ◌+◌, ◌-◌, ◌<◌, ◌≤◌, IsSome, ℕ, ℤ, pos, negsuc, List, [], map, length, take, drop, nat_lt, slice_index_or, Option, Some, None, if◌then◌else◌}
use Rattle.std.specs.List.{Contains}
use Rattle.slab.specs.Slab.{Slab, entries}
use Rattle.fg_words.specs.declared.Word.{Word}
use Rattle.fg_words.specs.Word.{word_xor}
use Rattle.fg_shape.specs.Shape.{IsShape}
use Rattle.fg_peel.specs.declared.Slot.{Slot}
use Rattle.fg_peel.specs.declared.Slot.TheVariants.{Empty, Media, Solved, Filled}
use Rattle.fg_peel.specs.declared.Line.{Line}
use Rattle.fg_peel.specs.Equation.{Equation, slots, IsComplete}
use Rattle.fg_peel.specs.declared.span.Missing.{Missing}
use Rattle.fg_peel.specs.declared.span.Missing.TheVariants.{Nothing, One, Several}

-- The word of an entry, if it has one.
abbrev pub word_in : Slot → Option Word
word_in Empty = None
word_in (Media word) = Some word
word_in (Solved word) = Some word
word_in (Filled word) = Some word

-- The word of an entry that was received or was shown before.
abbrev pub known_in : Slot → Option Word
known_in Empty = None
known_in (Media word) = Some word
known_in (Solved word) = None
known_in (Filled word) = Some word

-- The word of an entry that equations gave.
abbrev pub recovered_in : Slot → Option Word
recovered_in Empty = None
recovered_in (Media word) = None
recovered_in (Solved word) = Some word
recovered_in (Filled word) = Some word

-- An entry whose word stands there alone, after another word is added.
abbrev pub with_word : Slot → Option Word → Slot
with_word (Filled word) (Some added) = Filled (word_xor word added)
with_word (Filled word) None = Filled word
with_word Empty added = Empty
with_word (Media word) added = Media word
with_word (Solved word) added = Solved word

-- The first position that has an entry, where the first entry stands for `low`. Positions begin at 0.
abbrev pub first_position : ℤ → ℕ
first_position (pos low) = low
first_position (negsuc n) = 0

-- The entries from that one on.
abbrev pub from_first : ℤ → List Slot → List Slot
from_first (pos low) entries = entries
from_first (negsuc n) entries = drop (n + 1) entries

-- The entries below those: they stand for no position.
abbrev pub before_first : ℤ → List Slot → List Slot
before_first (pos low) entries = []
before_first (negsuc n) entries = take (n + 1) entries

-- What the entries have at each position, where the first one stands for the position `start`.
abbrev pub told_from : (Slot → Option Word) → ℕ → List Slot → ℕ → Option Word
told_from tell start entries position =
    (if nat_lt position start then None else tell (slice_index_or entries (position - start) Empty))

-- The words at the positions, those of them that were received or shown before, and those that equations gave.
abbrev pub words_from : ℕ → List Slot → ℕ → Option Word
words_from = told_from word_in

abbrev pub known_from : ℕ → List Slot → ℕ → Option Word
known_from = told_from known_in

abbrev pub recovered_from : ℕ → List Slot → ℕ → Option Word
recovered_from = told_from recovered_in

-- The same where the first entry stands for `low`.
abbrev pub words_at : ℤ → List Slot → ℕ → Option Word
words_at low entries = words_from (first_position low) (from_first low entries)

abbrev pub known_at : ℤ → List Slot → ℕ → Option Word
known_at low entries = known_from (first_position low) (from_first low entries)

abbrev pub recovered_at : ℤ → List Slot → ℕ → Option Word
recovered_at low entries = recovered_from (first_position low) (from_first low entries)

-- What a line says.
abbrev pub equation_of : Line → Equation
equation_of line = record { base = line.base; offset = line.shape.offset; count = line.shape.na; parity = line.parity }

-- The live lines, by rising key.
abbrev pub lines_of : Slab Line → List Line
lines_of lines = map (λ entry. entry.1) (entries lines)

-- What they say.
abbrev pub equations_of : Slab Line → List Equation
equations_of lines = map equation_of (lines_of lines)

-- A line of a shape that is read, each slot of which is one of `count` positions from `start` on.
pub record FitsFrom (start count : ℕ) (line : Line) : Type 0 where
  pub shape : IsShape line.shape.offset line.shape.na
  pub within : (position : ℕ) → Contains (slots (equation_of line)) position → (start ≤ position) × (position < start + count)

-- Each slot of the line has an entry.
abbrev pub Fits : ℕ → List Slot → Line → Type 0
Fits start entries = FitsFrom start (length entries)

-- That is so of each line.
abbrev pub AllFitFrom : ℕ → List Slot → Slab Line → Type 0
AllFitFrom start entries lines = (line : Line) → Contains (lines_of lines) line → Fits start entries line

abbrev pub AllFit : ℤ → List Slot → Slab Line → Type 0
AllFit low entries = AllFitFrom (first_position low) (from_first low entries)

-- Only empty entries have changed, and only into filled ones.
pub record OnlyFills (old new : List Slot) : Type 0 where
  pub count : length new ≡ length old
  pub kept : (k : ℕ) → slice_index_or old k Empty ≢ Empty → slice_index_or new k Empty ≡ slice_index_or old k Empty
  pub filled :
      (k : ℕ) → slice_index_or old k Empty ≡ Empty
      → (slice_index_or new k Empty ≡ Empty) ⊎ ((word : Word) × (slice_index_or new k Empty ≡ Filled word))

-- Which slots of an equation have no word: none, just one, or at least two.
abbrev pub IsMissing : (ℕ → Option Word) → Equation → Missing → Type 0
IsMissing words equation Nothing = IsComplete words equation
IsMissing words equation (One position) =
    Contains (slots equation) position × (words position ≡ None)
    × ((other : ℕ) → Contains (slots equation) other → other ≢ position → IsSome (words other))
IsMissing words equation Several =
    (one : ℕ) × (other : ℕ) × Contains (slots equation) one × Contains (slots equation) other × (one ≢ other)
    × (words one ≡ None) × (words other ≡ None)
