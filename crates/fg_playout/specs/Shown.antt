-- What a play shows, and what a tray has of it. This project's own.
use Rattle.std.specs.Prelude.{ℕ, Bool, false, List, Option, None, IsSome, IsTrue}
use Rattle.std.specs.List.{All}
use Rattle.std.specs.Ordering.{nat_cmp}
use Rattle.std.specs.FinSet.{FinSet, contains}
use Rattle.fg_words.specs.declared.Word.{Word}

-- What a play shows at a position: a word, or none; and whether the word was not received but repaired.
pub record Shown : Type 0 where
  pub word : Option Word
  pub repaired : Bool

abbrev pub nothing_shown : Shown
nothing_shown = record { word = None; repaired = false }

-- What words show at a position, where it is told which were repaired.
abbrev pub kept_shown : (ℕ → Option Word) → FinSet nat_cmp → ℕ → Shown
kept_shown words repaired position = record { word = words position; repaired = contains repaired position }

-- Of positions that are shown, those alone are told as repaired that have a word.
abbrev pub OnlyWordsAreRepaired : List Shown → Type 0
OnlyWordsAreRepaired = All (λ shown. IsTrue shown.repaired → IsSome shown.word)

-- A tray: how many positions it has room for, and what the last play showed.
pub record Holding : Type 0 where
  pub window : ℕ
  pub shown : List Shown
