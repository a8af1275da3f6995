-- A plain program for the gaps of plays, position after position. No result is defined by it.
use Rattle.std.specs.Prelude.{◌≡◌, ◌+◌, ℕ, List, [], ◌∷◌, if◌then◌else◌}
use Rattle.fg_playout.specs.Play.{Play, Shown}
use Rattle.fg_report.specs.Gaps.{with_gap}
use Rattle.fg_results.specs.Flow.{AreGaps, all_shown, shows_word}

-- The gaps with those of more positions, which show this from a position on.
abbrev pub gaps_from : List (ℕ × ℕ) → ℕ → List Shown → List (ℕ × ℕ)
gaps_from gaps position [] = gaps
gaps_from gaps position (shown ∷ more) =
    gaps_from (if shows_word shown then gaps else with_gap gaps position 1) (position + 1) more

-- The gaps of all plays.
abbrev pub gaps_of : List Play → List (ℕ × ℕ)
gaps_of plays = gaps_from [] 0 (all_shown plays)

-- It gives the gaps, and there are no others.
abbrev pub GapsAreTold : Type 0
GapsAreTold = (plays : List Play) → AreGaps plays (gaps_of plays)

abbrev pub OneListOfGaps : Type 0
OneListOfGaps = (plays : List Play) (one other : List (ℕ × ℕ)) → AreGaps plays one → AreGaps plays other → one ≡ other
