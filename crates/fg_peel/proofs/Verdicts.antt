-- Peelings one after another, and when a maximal one is sound.
use Rattle.std.proofs.Common.{◌≡◌, ◌↔◌, ℕ, List, [], ◌∷◌, ◌++◌, Option, Some, None, IsSome, refl, subst}
use Rattle.std.specs.List.{Contains}
use Rattle.fg_words.specs.declared.Word.{Word}
use Rattle.fg_words.specs.Word.{IsMedia}
use Rattle.fg_peel.specs.Equation.{Equation, AreAdmissible, slots, sum_at}
use Rattle.fg_peel.specs.Solution.{IsSolution}
use Rattle.fg_peel.specs.Peeling.{Step, CanFollow, IsPeeling, IsMaximal, IsSound, after_step, end_of}
use Rattle.fg_peel.proofs.Peelings.{end_of-keeps, maximal_end}
use Rattle.fg_peel.proofs.Maximal.{maximal_exists}
use Rattle.fg_peel.proofs.Solutions.{maximal_sound}

-- The end of two peelings, one after the other.
pub end_of-append :
    (known : ℕ → Option Word) (one other : List Step) → end_of known (one ++ other) ≡ end_of (end_of known one) other
end_of-append known [] other = refl
end_of-append known (step ∷ steps) other = end_of-append (after_step known step) steps other

pub IsPeeling-append :
    (known : ℕ → Option Word) (equations : List Equation) (one other : List Step) → IsPeeling known equations one
    → IsPeeling (end_of known one) equations other → IsPeeling known equations (one ++ other)
IsPeeling-append known equations [] other first second = second
IsPeeling-append known equations (step ∷ steps) other first second =
    (first.0, IsPeeling-append (after_step known step) equations steps other first.1 second)

pub IsMaximal-append :
    (known : ℕ → Option Word) (equations : List Equation) (one other : List Step) → IsPeeling known equations one
    → IsMaximal (end_of known one) equations other → IsMaximal known equations (one ++ other)
IsMaximal-append known equations one other first second = record {
  peeling = IsPeeling-append known equations one other first second.peeling;
  no_more = λ step can. second.no_more step (subst (λ now. CanFollow now equations step) (end_of-append known one other) can);
}

-- One step more.
pub end_of-push :
    (known : ℕ → Option Word) (steps : List Step) (step : Step)
    → end_of known (steps ++ step ∷ []) ≡ after_step (end_of known steps) step
end_of-push known steps step = end_of-append known steps (step ∷ [])

pub IsPeeling-push :
    (known : ℕ → Option Word) (equations : List Equation) (steps : List Step) (step : Step) → IsPeeling known equations steps
    → CanFollow (end_of known steps) equations step → IsPeeling known equations (steps ++ step ∷ [])
IsPeeling-push known equations steps step peeling can = IsPeeling-append known equations steps (step ∷ []) peeling (can, tt)

-- Every peeling can be continued to a maximal one.
pub peelings_continue :
    (known : ℕ → Option Word) (equations : List Equation) (steps : List Step) → IsPeeling known equations steps
    → (more : List Step) × IsMaximal known equations (steps ++ more)
peelings_continue known equations steps peeling =
    let m = maximal_exists (end_of known steps) equations in
    (m.0, IsMaximal-append known equations steps m.0 peeling m.1)

-- A maximal peeling is sound where each word that it found is a media word, and each equation comes out whose slots are
-- all known at its end.
pub sound_from_tests :
    (known : ℕ → Option Word) (equations : List Equation) (steps : List Step) → IsMaximal known equations steps
    → ((q : ℕ) (w : Word) → known q ≡ None → end_of known steps q ≡ Some w → IsMedia w)
    → ((equation : Equation) → Contains equations equation
    → ((q : ℕ) → Contains (slots equation) q → IsSome (end_of known steps q))
    → equation.parity ≡ sum_at (end_of known steps) (slots equation))
    → IsSound known equations steps
sound_from_tests known equations steps maximal media sums = record {
  domain = maximal_end known equations steps maximal;
  keeps = end_of-keeps known equations steps maximal.peeling;
  media = media;
  sums = λ equation listed inside. sums equation listed (λ q c. (maximal_end known equations steps maximal q).1 (inside q c));
}

pub sums_from_sound :
    (known : ℕ → Option Word) (equations : List Equation) (steps : List Step) → IsMaximal known equations steps
    → IsSound known equations steps
    → (equation : Equation) → Contains equations equation
    → ((q : ℕ) → Contains (slots equation) q → IsSome (end_of known steps q))
    → equation.parity ≡ sum_at (end_of known steps) (slots equation)
sums_from_sound known equations steps maximal sound equation listed whole =
    sound.sums equation listed (λ q c. (maximal_end known equations steps maximal q).0 (whole q c))

-- It is sound exactly where there is a solution.
pub sound_where_solvable :
    (known : ℕ → Option Word) (equations : List Equation) → AreAdmissible known equations
    → (steps : List Step) → IsMaximal known equations steps
    → IsSound known equations steps ↔ ((words : ℕ → Option Word) × IsSolution known equations words)
sound_where_solvable known equations admissible steps maximal =
    (λ sound. (end_of known steps, sound), λ s. maximal_sound known equations admissible s.0 s.1 steps maximal)
