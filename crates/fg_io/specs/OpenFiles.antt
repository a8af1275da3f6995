-- Files that stay open, each with its port, the one used last at the end: this project's own rule.
use Rattle.std.specs.Prelude.{◌≡◌, ◌≢◌, ℕ, List, ◌∷◌, ◌++◌, All}
use Rattle.std.specs.List.{AllPairs}

-- no port has two
abbrev pub AreApart : {T : Type 0} → List (ℕ × T) → Type 0
AreApart files = AllPairs (λ one other. one.0 ≢ other.0) files

-- the port's file is taken out, and the others stay in their order
pub record TakesOut {T : Type 0} (before : List (ℕ × T)) (port : ℕ) (file : T) (after : List (ℕ × T)) : Type 0 where
  pub front : List (ℕ × T)
  pub back : List (ℕ × T)
  pub was : before ≡ front ++ (port, file) ∷ back
  pub is : after ≡ front ++ back

-- the port has none
abbrev pub HasNone : {T : Type 0} → List (ℕ × T) → ℕ → Type 0
HasNone files port = All (λ held. held.0 ≢ port) files

-- a port that had none has none
abbrev pub NoneComes : {T : Type 0} → List (ℕ × T) → List (ℕ × T) → Type 0
NoneComes before after = (port : ℕ) → HasNone before port → HasNone after port
