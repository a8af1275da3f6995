-- Sets of positions as runs, each a pair of a first position and how many they are: this project's own.
use Rattle.std.specs.Prelude.{◌↔◌, ℕ, List}
pub use Rattle.fg_report.specs.Gaps.{run_end, AreApart, IsInGap}

-- The position lies in one of the runs.
abbrev pub InRuns : List (ℕ × ℕ) → ℕ → Type 0
InRuns runs position = IsInGap runs position

-- These are the maximal runs of a set of positions: they rise with a gap between each and the next, none is empty, and a
-- position lies in one exactly where it is in the set.
pub record AreRunsOf (P : ℕ → Type 0) (runs : List (ℕ × ℕ)) : Type 0 where
  pub apart : AreApart runs
  pub inside : (position : ℕ) → InRuns runs position ↔ P position
