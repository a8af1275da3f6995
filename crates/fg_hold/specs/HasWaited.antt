-- How long a word has waited. This project's own.
use Rattle.std.specs.Prelude.{◌+◌, ◌≤◌, ℕ}
use Rattle.std.specs.Option.{IsSomeAnd}
use Rattle.std.specs.Ordering.{nat_cmp}
use Rattle.std.specs.FinMap.{FinMap, get}

-- The times at which words came, by position.
abbrev pub Times : Type 0
Times = FinMap nat_cmp ℕ

-- A word waits at the position, and it came at least `hold` microseconds before this time of the clock.
abbrev pub HasWaited : ℕ → ℕ → Times → ℕ → Type 0
HasWaited hold clock times position = IsSomeAnd (get times position) (λ time. time + hold ≤ clock)
