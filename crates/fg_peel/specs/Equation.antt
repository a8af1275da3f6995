-- Parity equations (SMPTE ST 2022-1, from Pro-MPEG Code of Practice 3): the words at an equation's slots sum to its
-- parity word.
use Rattle.std.specs.Prelude.{◌≡◌, ◌≤◌, ◌==◌, ℕ, List, not, Option, Some, IsSome}
use Rattle.std.specs.List.{Contains, filter, filter_map}
use Rattle.fg_words.specs.declared.Word.{Word}
use Rattle.fg_words.specs.Word.{word_sum, IsMedia}
use Rattle.fg_shape.specs.Shape.{slots_of}

-- What a parity datagram says: its base position, its shape, and the sum of the words at its slots.
pub record Equation : Type 0 where
  pub base : ℕ
  pub offset : ℕ
  pub count : ℕ
  pub parity : Word

-- The positions that an equation speaks of.
abbrev pub slots : Equation → List ℕ
slots equation = slots_of equation.base equation.offset equation.count

-- The positions of a list other than one.
abbrev pub others : ℕ → List ℕ → List ℕ
others position = filter (λ other. not (other == position))

-- The sum of the words that an assignment has at the positions of a list.
abbrev pub sum_at : (ℕ → Option Word) → List ℕ → Word
sum_at words positions = word_sum (filter_map words positions)

-- All slots of the equation have words.
abbrev pub IsComplete : (ℕ → Option Word) → Equation → Type 0
IsComplete words equation = (position : ℕ) → Contains (slots equation) position → IsSome (words position)

-- The words at the equation's slots sum to its parity word.
abbrev pub ComesOut : (ℕ → Option Word) → Equation → Type 0
ComesOut words equation = equation.parity ≡ sum_at words (slots equation)

-- Every equation comes out whose slots all have words.
abbrev pub AllComeOut : (ℕ → Option Word) → List Equation → Type 0
AllComeOut words equations =
    (equation : Equation) → Contains equations equation → IsComplete words equation → ComesOut words equation

-- The equation is settled in these words: its slots all have one, and it comes out.
abbrev pub IsSettled : (ℕ → Option Word) → Equation → Type 0
IsSettled words equation = IsComplete words equation × ComesOut words equation

-- Each known word is among these words.
abbrev pub Keeps : (ℕ → Option Word) → (ℕ → Option Word) → Type 0
Keeps known words = (position : ℕ) (word : Word) → known position ≡ Some word → words position ≡ Some word

-- Where both have a word, it is the same.
abbrev pub Agree : (ℕ → Option Word) → (ℕ → Option Word) → Type 0
Agree one other =
    (position : ℕ) (first second : Word) → one position ≡ Some first → other position ≡ Some second → first ≡ second

-- All these words are media words.
abbrev pub AreMedia : (ℕ → Option Word) → Type 0
AreMedia words = (position : ℕ) (word : Word) → words position ≡ Some word → IsMedia word

-- What admission lets in: known words and a list of equations. Known are the received words and those shown before.
-- All slots before the next position to be played are known, so nothing here mentions the playout. Known words are
-- media words, and an equation's slots differ from each other (this project's profile has offsets of 1 to 20).
pub record AreAdmissible (known : ℕ → Option Word) (equations : List Equation) : Type 0 where
  pub known_media : AreMedia known
  pub some_offset : (equation : Equation) → Contains equations equation → 1 ≤ equation.offset
