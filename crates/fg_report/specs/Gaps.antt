-- Runs of positions that show nothing, as pairs of a first position and a number of positions: this project's own.
use Rattle.std.specs.Prelude.{◌≡◌, ◌⊎◌, ℕ, ◌+◌, ◌<◌, ◌≤◌, ◌==◌, List, [], ◌∷◌, length, ⊤, cond}
use Rattle.fg_shape.specs.Shape.{position_limit}

-- The position behind a run.
abbrev pub run_end : ℕ × ℕ → ℕ
run_end run = run.0 + run.1

-- The position behind the last run.
abbrev pub gaps_end : List (ℕ × ℕ) → ℕ
gaps_end [] = 0
gaps_end (run ∷ []) = run_end run
gaps_end (run ∷ next ∷ more) = gaps_end (next ∷ more)

-- One more run: it is one with the last where it begins at that run's end.
abbrev pub with_gap : List (ℕ × ℕ) → ℕ → ℕ → List (ℕ × ℕ)
with_gap [] first count = (first, count) ∷ []
with_gap (run ∷ []) first count =
    cond (run_end run == first) ((run.0, run.1 + count) ∷ []) (run ∷ (first, count) ∷ [])
with_gap (run ∷ next ∷ more) first count = run ∷ with_gap (next ∷ more) first count

-- There is a last run, and the position is the one behind it.
abbrev pub EndsAt : List (ℕ × ℕ) → ℕ → Type 0
EndsAt runs position = (0 < length runs) × (gaps_end runs ≡ position)

-- The run ends before the next one, if there is one, begins: a position lies between them.
abbrev pub EndsBefore : ℕ × ℕ → List (ℕ × ℕ) → Type 0
EndsBefore run [] = ⊤
EndsBefore run (next ∷ more) = run_end run < next.0

-- The runs rise and are maximal: none is empty, and each ends before the next one begins.
abbrev pub AreApart : List (ℕ × ℕ) → Type 0
AreApart [] = ⊤
AreApart (run ∷ more) = (0 < run.1) × EndsBefore run more × AreApart more

-- They are so, and none goes past the greatest position.
pub record AreKept (runs : List (ℕ × ℕ)) : Type 0 where
  pub apart : AreApart runs
  pub limit : gaps_end runs ≤ position_limit

-- The position is one of some run.
abbrev pub IsInGap : List (ℕ × ℕ) → ℕ → Type 0
IsInGap [] position = ⊥
IsInGap (run ∷ more) position = ((run.0 ≤ position) × (position < run_end run)) ⊎ IsInGap more position
