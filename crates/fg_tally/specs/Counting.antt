-- How many positions a list has, as an answer counts them. No public contract cites it.
use Rattle.std.specs.Prelude.{◌≡◌, ◌≤◌, ◌+◌, ◌*◌, ℕ, List, [], ◌∷◌, length, map, not}
use Rattle.std.specs.List.{filter, range_with_len}
use Rattle.std.specs.FinSet.{contains}
use Rattle.fg_tally.specs.Folding.{slots_in}
use Rattle.fg_tally.specs.declared.missing.Missing.{Missing}
use Rattle.fg_tally.specs.declared.missing.Missing.TheVariants.{Nothing, One, Several}

abbrev pub Counts : List ℕ → Missing → Type 0
Counts slots Nothing = slots ≡ []
Counts slots (One slot) = slots ≡ slot ∷ []
Counts slots (Several count) = (count ≡ length slots) × (2 ≤ count)

-- The first slots of an equation, but those whose bits are set.
abbrev pub missing_among : ℕ → ℕ → ℕ → ℕ → ℕ → List ℕ
missing_among bits base offset count n =
    filter (λ slot. not (contains (slots_in bits base offset count) slot)) (map (λ j. base + j * offset) (range_with_len 0 n))
