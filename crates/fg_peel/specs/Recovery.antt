-- What the private functions do: one pass over the lines makes some steps of a peeling, and a look over the entries
-- makes the verdict. No public contract cites this file.
use Rattle.std.specs.Prelude.{slice_set, ◌≡◌, ◌+◌, ◌-◌, ◌++◌, take, drop, ℕ, List, length, count_by, Bool, true, false, Option, Some, None}
use Rattle.std.specs.List.{Contains}
use Rattle.fg_words.specs.declared.Word.{Word}
use Rattle.fg_words.specs.Word.{word_xor, IsMedia}
use Rattle.slab.specs.Slab.{Slab}
use Rattle.fg_peel.specs.declared.Line.{Line}
use Rattle.fg_peel.specs.declared.Slot.{Slot}
use Rattle.fg_peel.specs.declared.Slot.TheVariants.{Empty, Media, Solved, Filled}
use Rattle.fg_peel.specs.declared.span.Missing.TheVariants.{One}
use Rattle.fg_peel.specs.declared.Verdict.{Verdict}
use Rattle.fg_peel.specs.Equation.{Equation, slots, sum_at, AreMedia}
use Rattle.fg_peel.specs.Peeling.{Step, IsPeeling, end_of, given_word}
use Rattle.fg_peel.specs.Slots.{OnlyFills, IsMissing, words_from, recovered_in, equation_of, lines_of}
use Rattle.fg_peel.specs.Peels.{IsPeel}

-- The equation doesn't miss just one word: nothing follows from it alone.
abbrev pub NothingFollows : (ℕ → Option Word) → Equation → Type 0
NothingFollows words equation = (position : ℕ) → ¬ IsMissing words equation (One position)

-- That is so of each line.
abbrev pub AllClosed : (ℕ → Option Word) → Slab Line → Type 0
AllClosed words lines =
    (line : Line) → Contains (lines_of lines) line → NothingFollows words (equation_of line)

-- It is so of each line with this slot.
abbrev pub AllClosedAt : (ℕ → Option Word) → Slab Line → ℕ → Type 0
AllClosedAt words lines slot =
    (line : Line) → Contains (lines_of lines) line → Contains (slots (equation_of line)) slot
    → NothingFollows words (equation_of line)

-- Lines from which nothing followed stay so.
abbrev pub StayClosed : (ℕ → Option Word) → (ℕ → Option Word) → Slab Line → Type 0
StayClosed old new lines =
    (line : Line) → Contains (lines_of lines) line → NothingFollows old (equation_of line)
    → NothingFollows new (equation_of line)

abbrev pub is_empty : Slot → Bool
is_empty Empty = true
is_empty (Media word) = false
is_empty (Solved word) = false
is_empty (Filled word) = false

-- How many entries have no word.
abbrev pub empty_count : List Slot → ℕ
empty_count = count_by is_empty

-- The new entries come from the old ones by steps of a peeling: as many empty entries were filled.
pub record IsPeeledBy (start : ℕ) (equations : List Equation) (old new : List Slot) (steps : List Step) : Type 0 where
  pub peeling : IsPeeling (words_from start old) equations steps
  pub end : words_from start new ≡ end_of (words_from start old) steps
  pub fills : OnlyFills old new
  pub counts : empty_count new + length steps ≡ empty_count old

abbrev pub IsPeeled : ℕ → List Equation → List Slot → List Slot → Type 0
IsPeeled start equations old new = (steps : List Step) × IsPeeledBy start equations old new steps

-- One step of a peeling, by this equation and for this position.
abbrev pub Fills : ℕ → Equation → ℕ → List Slot → List Slot → Type 0
Fills start equation position old new =
    new ≡ slice_set old (position - start) (Filled (given_word (words_from start old) (record { equation = equation; position = position })))

-- Where all words were media words, they are still.
abbrev pub StayMedia : (ℕ → Option Word) → (ℕ → Option Word) → Type 0
StayMedia old new = AreMedia old → AreMedia new

-- A sum after a word was added, where there is one.
abbrev pub with_added : Word → Option Word → Word
with_added sum (Some word) = word_xor sum word
with_added sum None = sum

-- A sum has gained the words at the equation's slots.
abbrev pub AddsWords : (ℕ → Option Word) → Equation → Word → Word → Type 0
AddsWords words equation old new = new ≡ word_xor old (sum_at words (slots equation))

-- The entry's word, if it was recovered, is a media word.
abbrev pub RecoversMedia : Slot → Type 0
RecoversMedia entry = (word : Word) → recovered_in entry ≡ Some word → IsMedia word

-- Peeling past entries that stand for no position.
abbrev pub IsPeelAfter : ℕ → Slab Line → List Slot → List Slot → Verdict → Type 0
IsPeelAfter below lines old new answer =
    (rest : List Slot) × (new ≡ take below old ++ rest) × IsPeel 0 lines (drop below old) rest answer
