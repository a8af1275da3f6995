-- Peelings: one word after another is recovered, in any order. After SMPTE ST 2022-1, where one parity datagram
-- recovers one lost datagram.
use Rattle.std.specs.Prelude.{◌≡◌, ◌≢◌, ◌==◌, ⊤, ℕ, List, [], ◌∷◌, Option, Some, None, IsSome, if◌then◌else◌}
use Rattle.std.specs.List.{Contains}
use Rattle.fg_words.specs.declared.Word.{Word}
use Rattle.fg_words.specs.Word.{word_xor}
use Rattle.fg_peel.specs.Equation.{Equation, slots, others, sum_at}
use Rattle.fg_peel.specs.Solution.{IsSolution}

-- One equation gives the word at one position.
pub record Step : Type 0 where
  pub equation : Equation
  pub position : ℕ

-- A step can be made where its position is an unknown slot of a listed equation whose other slots are all known.
pub record CanFollow (known : ℕ → Option Word) (equations : List Equation) (step : Step) : Type 0 where
  pub listed : Contains equations step.equation
  pub slot : Contains (slots step.equation) step.position
  pub unknown : known step.position ≡ None
  pub others_known :
      (other : ℕ) → Contains (slots step.equation) other → other ≢ step.position → IsSome (known other)

-- It gives the XOR of the parity word and the words at the other slots.
abbrev pub given_word : (ℕ → Option Word) → Step → Word
given_word known step =
    word_xor step.equation.parity (sum_at known (others step.position (slots step.equation)))

-- The known words after a step.
abbrev pub after_step : (ℕ → Option Word) → Step → ℕ → Option Word
after_step known step position =
    (if position == step.position then Some (given_word known step) else known position)

-- A peeling is a list of steps, each of which can be made after those before it.
abbrev pub IsPeeling : (ℕ → Option Word) → List Equation → List Step → Type 0
IsPeeling known equations [] = ⊤
IsPeeling known equations (step ∷ steps) =
    CanFollow known equations step × IsPeeling (after_step known step) equations steps

-- Its end: all words known after it.
abbrev pub end_of : (ℕ → Option Word) → List Step → ℕ → Option Word
end_of known [] = known
end_of known (step ∷ steps) = end_of (after_step known step) steps

-- A peeling is maximal where no step can be added.
pub record IsMaximal (known : ℕ → Option Word) (equations : List Equation) (steps : List Step) : Type 0 where
  pub peeling : IsPeeling known equations steps
  pub no_more : (step : Step) → ¬ CanFollow (end_of known steps) equations step

-- A peeling is sound where its end is a solution.
abbrev pub IsSound : (ℕ → Option Word) → List Equation → List Step → Type 0
IsSound known equations steps = IsSolution known equations (end_of known steps)

-- The words are those that a peeling of the known ones leaves.
abbrev pub ArePeeled : List Equation → (ℕ → Option Word) → (ℕ → Option Word) → Type 0
ArePeeled equations known words = (steps : List Step) × IsPeeling known equations steps × (words ≡ end_of known steps)

-- They are the end of a maximal peeling.
abbrev pub EndsPeeling : List Equation → (ℕ → Option Word) → (ℕ → Option Word) → Type 0
EndsPeeling equations known words =
    (steps : List Step) × IsMaximal known equations steps × (words ≡ end_of known steps)
