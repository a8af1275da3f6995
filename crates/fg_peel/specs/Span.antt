-- What a span of entries tells: the words of its positions, and whether it has an entry for each slot of a line. The
-- entries say what slots say.
use Rattle.std.specs.Prelude.{◌+◌, ◌≤◌, ℕ, List, length, Option}
use Rattle.slab.specs.Slab.{Slab}
use Rattle.fg_words.specs.declared.Word.{Word}
use Rattle.fg_shape.specs.Shape.{position_limit}
use Rattle.fg_peel.specs.declared.Slot.{Slot}
use Rattle.fg_peel.specs.declared.Line.{Line}
use Rattle.fg_peel.specs.declared.span.Span.{Span}
use Rattle.fg_peel.specs.Slots.{words_from, recovered_from, Fits, AllFitFrom}

-- The words at the positions.
abbrev pub words_in : {E : Type 0} → (E → List Slot) → Span E → ℕ → Option Word
words_in says span = words_from span.start (says span.entries.now)

-- Those of them that equations gave.
abbrev pub recovered_words_in : {E : Type 0} → (E → List Slot) → Span E → ℕ → Option Word
recovered_words_in says span = recovered_from span.start (says span.entries.now)

-- All positions lie below the limit.
abbrev pub IsWithinLimit : {E : Type 0} → (E → List Slot) → Span E → Type 0
IsWithinLimit says span = span.start + length (says span.entries.now) ≤ position_limit

-- The line has a shape that is read, and the span an entry for each of its slots.
abbrev pub HasSlots : {E : Type 0} → (E → List Slot) → Span E → Line → Type 0
HasSlots says span line = Fits span.start (says span.entries.now) line × IsWithinLimit says span

-- That is so of each line.
abbrev pub HasAllSlots : {E : Type 0} → (E → List Slot) → Span E → Slab Line → Type 0
HasAllSlots says span lines = AllFitFrom span.start (says span.entries.now) lines × IsWithinLimit says span
