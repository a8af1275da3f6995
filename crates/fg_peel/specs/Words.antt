-- Words by position, around a mark: the first position that isn't played yet. This project's own.
use Rattle.std.specs.Prelude.{◌≤◌, ℕ, nat_lt, Option, if◌then◌else◌}
use Rattle.std.specs.Ordering.{nat_cmp}
use Rattle.std.specs.FinMap.{FinMap, get}
use Rattle.fg_words.specs.declared.Word.{Word}

-- How many positions before the mark have kept words.
abbrev pub kept_count : ℕ
kept_count = 100

-- Words by position.
abbrev pub Words : Type 0
Words = FinMap nat_cmp Word

-- The words of two maps: those of the first below the mark, and those of the second from it on.
abbrev pub words_around : ℕ → Words → Words → ℕ → Option Word
words_around mark before after position =
    (if nat_lt position mark then get before position else get after position)

-- The greatest number with a property.
pub record IsGreatest (P : ℕ → Type 0) (n : ℕ) : Type 0 where
  pub inside : P n
  pub greatest : (other : ℕ) → P other → other ≤ n
