-- What a peeling keeps and gains.
use Rattle.std.proofs.Common.{◌≡◌, ◌≢◌, ◌⊎◌, ◌↔◌, ◌==◌, ℕ, Bool, true, false, List, [], ◌∷◌, Option, Some, None, IsSome, refl, inl, inr, ◌∙◌, ⊎_elim}
use Rattle.std.proofs.lemmas.Bool.Decides.{Decides-eqb}
use Rattle.fg_words.specs.declared.Word.{Word}
use Rattle.fg_peel.specs.Equation.{Equation}
use Rattle.fg_peel.specs.Closure.{InClosure, IsClosed, given, derived}
use Rattle.fg_peel.specs.Peeling.{Step, CanFollow, IsPeeling, IsMaximal, after_step, end_of, given_word}
use Rattle.fg_peel.proofs.Lists.{same_or_not}
use Rattle.fg_peel.proofs.Options.{value_of}
use Rattle.fg_peel.proofs.Closures.{closure_least}

pub known_or_not : (o : Option Word) → IsSome o ⊎ (o ≡ None)
known_or_not None = inr refl
known_or_not (Some w) = inl refl

-- A step gives its position a word, and changes no other position.
pub after_step-at : (known : ℕ → Option Word) (step : Step) → after_step known step step.position ≡ Some (given_word known step)
after_step-at known step =
    let t : (step.position == step.position) ≡ true = (Decides-eqb step.position step.position).1 refl in rw t

pub after_step-other : (known : ℕ → Option Word) (step : Step) (q : ℕ) → q ≢ step.position → after_step known step q ≡ known q
after_step-other known step q n = go (q == step.position) refl
  where
    go : (b : Bool) → (q == step.position) ≡ b → after_step known step q ≡ known q
    go true e = absurd (n ((Decides-eqb q step.position).0 e))
    go false e = rw e

-- A step at an unknown position keeps the known words.
pub after_step-keeps :
    (known : ℕ → Option Word) (step : Step) → known step.position ≡ None
    → (q : ℕ) (w : Word) → known q ≡ Some w → after_step known step q ≡ Some w
after_step-keeps known step unknown q w is =
    after_step-other known step q (λ s. (let e : known q ≡ None = (rw s unknown) in cc)) ∙ is

-- So does a peeling.
pub end_of-keeps :
    (known : ℕ → Option Word) (equations : List Equation) (steps : List Step) → IsPeeling known equations steps
    → (q : ℕ) (w : Word) → known q ≡ Some w → end_of known steps q ≡ Some w
end_of-keeps known equations [] peeling q w is = is
end_of-keeps known equations (step ∷ steps) peeling q w is =
    end_of-keeps (after_step known step) equations steps peeling.1 q w (after_step-keeps known step peeling.0.unknown q w is)

pub end_of-known :
    (known : ℕ → Option Word) (equations : List Equation) (steps : List Step) → IsPeeling known equations steps
    → (q : ℕ) → IsSome (known q) → IsSome (end_of known steps q)
end_of-known known equations steps peeling q h =
    let s = value_of (known q) h in
    rw (end_of-keeps known equations steps peeling q s.0 s.1)

-- A step from known positions inside a closed set stays inside.
after_step-inside :
    (known start : ℕ → Option Word) (equations : List Equation) (step : Step) → CanFollow known equations step
    → ((q : ℕ) → IsSome (known q) → InClosure start equations q)
    → (q : ℕ) → IsSome (after_step known step q) → InClosure start equations q
after_step-inside known start equations step can inside q h =
    ⊎_elim
    (λ same. rw same (derived step.equation can.listed can.slot (λ o c n. inside o (can.others_known o c n))))
    (λ n. inside q (rw (after_step-other known step q n) at h))
    (same_or_not q step.position)

-- A peeling that starts with known positions in the closure stays in it.
pub end_of-inside :
    (start : ℕ → Option Word) (equations : List Equation) (known : ℕ → Option Word) (steps : List Step)
    → ((q : ℕ) → IsSome (known q) → InClosure start equations q) → IsPeeling known equations steps
    → (q : ℕ) → IsSome (end_of known steps q) → InClosure start equations q
end_of-inside start equations known [] inside peeling q h = inside q h
end_of-inside start equations known (step ∷ steps) inside peeling q h =
    end_of-inside start equations (after_step known step) steps
    (after_step-inside known start equations step peeling.0 inside) peeling.1 q h

pub peelings_stay :
    (known : ℕ → Option Word) (equations : List Equation) (steps : List Step) → IsPeeling known equations steps
    → (q : ℕ) → IsSome (end_of known steps q) → InClosure known equations q
peelings_stay known equations steps peeling = end_of-inside known equations known steps (λ q h. given h) peeling

-- Where no step can be added, the known positions are closed.
pub maximal_closed :
    (known : ℕ → Option Word) (equations : List Equation) (steps : List Step) → IsMaximal known equations steps
    → IsClosed known equations (λ q. IsSome (end_of known steps q))
maximal_closed known equations steps maximal = record {
  given = end_of-known known equations steps maximal.peeling;
  derived = λ equation position listed slot others. ⊎_elim
      (λ h. h)
      (λ unknown. (let step : Step = record { equation = equation; position = position } in
      absurd (maximal.no_more step (record { listed = listed; slot = slot; unknown = unknown; others_known = others }))))
      (known_or_not (end_of known steps position));
}

-- So the end of a maximal peeling has exactly the positions of the closure.
pub maximal_end :
    (known : ℕ → Option Word) (equations : List Equation) (steps : List Step) → IsMaximal known equations steps
    → (q : ℕ) → IsSome (end_of known steps q) ↔ InClosure known equations q
maximal_end known equations steps maximal q = (
  peelings_stay known equations steps maximal.peeling q,
  closure_least known equations (λ p. IsSome (end_of known steps p)) (maximal_closed known equations steps maximal) q,
)
