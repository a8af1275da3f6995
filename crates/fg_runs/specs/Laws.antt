-- What shows that the definition of runs is right.
use Rattle.std.specs.Prelude.{◌≡◌, ◌↔◌, ℕ, List}
use Rattle.fg_runs.specs.Runs.{AreApart, InRuns}

-- Runs that rise with gaps between them, of the same positions, are the same runs.
abbrev pub OneListOfRuns : Type 0
OneListOfRuns =
    (one other : List (ℕ × ℕ)) → AreApart one → AreApart other
    → ((position : ℕ) → InRuns one position ↔ InRuns other position) → one ≡ other
