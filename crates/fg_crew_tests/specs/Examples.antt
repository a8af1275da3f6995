-- The two states of the tests: a pair of counts, and a stock that only shrinks. This project's own.
use Rattle.std.specs.Prelude.{◌≡◌, ℕ, ◌+◌, ◌≤◌, min, List, [], ◌∷◌, ◌++◌, length, Option, Some, None}
use Rattle.std.specs.List.{sum}
use mathlib.Core.List.{IsPrefix}
use Rattle.fg_turn.specs.Entries.{Entry}

-- an entry raises the first count, and a step without one the second, which stands still at its
-- type's end
abbrev pub Raises : Option Entry → ℕ → ℕ → ℕ → ℕ → Type 0
Raises (Some entry) a b a' b' = (a' ≡ a + 1) × (b' ≡ b)
Raises None a b a' b' = (a' ≡ a) × (b' ≡ min (b + 1) 4294967295)

abbrev pub Counts : List Entry → ℕ → ℕ → Type 0
Counts calls a b = (a ≡ length calls) × (b ≤ 4294967295)

-- the second count has reached each number told
abbrev pub Reached : List Entry → ℕ → Type 0
Reached [] b = Unit {0}
Reached (told ∷ more) b = (sum told ≤ b) × Reached more b

-- the owner takes what is listed from the end, and others take something from the end
abbrev pub Takes : Option Entry → List ℕ → List ℕ → Type 0
Takes (Some entry) old new = old ≡ new ++ entry
Takes None old new = IsPrefix new old

-- the first entry is the opening stock, of which what is left is the beginning
abbrev pub IsLeft : List Entry → List ℕ → Type 0
IsLeft [] items = ⊥
IsLeft (opening ∷ taken) items = IsPrefix items opening

-- the stock was each of those told, and what is left is its beginning
abbrev pub WasSeen : List Entry → List ℕ → Type 0
WasSeen [] items = Unit {0}
WasSeen (told ∷ more) items = IsPrefix items told × WasSeen more items
