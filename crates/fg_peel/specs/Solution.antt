-- A solution: words for exactly the closure, with which all equations come out. This project's own. It only tests a
-- finished assignment, and says nothing of how the words were found.
use Rattle.std.specs.Prelude.{◌≡◌, ◌↔◌, ℕ, List, Option, Some, None, IsSome}
use Rattle.std.specs.List.{Contains}
use Rattle.fg_words.specs.declared.Word.{Word}
use Rattle.fg_words.specs.Word.{IsMedia}
use Rattle.fg_peel.specs.Equation.{Equation, Keeps, ComesOut, slots}
use Rattle.fg_peel.specs.Closure.{InClosure}

-- Every word beyond the known ones is a media word.
abbrev pub FindsMedia : (ℕ → Option Word) → (ℕ → Option Word) → Type 0
FindsMedia known words =
    (position : ℕ) (word : Word) → known position ≡ None → words position ≡ Some word → IsMedia word

pub record IsSolution (known : ℕ → Option Word) (equations : List Equation) (words : ℕ → Option Word) : Type 0 where
  -- It has a word at exactly the positions of the closure.
  pub domain : (position : ℕ) → IsSome (words position) ↔ InClosure known equations position
  -- It keeps the known words.
  pub keeps : Keeps known words
  -- Every other word is a media word.
  pub media : FindsMedia known words
  -- Each equation whose slots are all in the closure has the sum of their words as its parity word.
  pub sums :
      (equation : Equation) → Contains equations equation
      → ((position : ℕ) → Contains (slots equation) position → InClosure known equations position)
      → ComesOut words equation
