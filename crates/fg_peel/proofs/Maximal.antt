-- There is a maximal peeling: each step leaves fewer unknown slots.
use Rattle.std.proofs.Common.{◌≡◌, ◌≢◌, ◌⊎◌, ◌+◌, ◌<◌, ◌≤◌, ℕ, zero, suc, List, [], ◌∷◌, Option, Some, None, IsSome, inl, inr, refl, sym, subst, ⊎_elim, arith}
use Rattle.std.specs.List.{Contains}
use Rattle.fg_words.specs.declared.Word.{Word}
use Rattle.fg_peel.specs.Equation.{Equation, slots}
use Rattle.fg_peel.specs.Peeling.{Step, CanFollow, IsMaximal, after_step}
use Rattle.fg_peel.proofs.Lists.{Contains-nil, Contains-cases, same_or_not, some_or_all}
use Rattle.fg_peel.proofs.Peelings.{known_or_not, after_step-at, after_step-other}

-- How many elements of a list are unknown.
count_unknown : Option Word → ℕ
count_unknown None = 1
count_unknown (Some w) = 0

unknown_in : (ℕ → Option Word) → List ℕ → ℕ
unknown_in known [] = 0
unknown_in known (x ∷ xs) = count_unknown (known x) + unknown_in known xs

-- How many slots of the equations are unknown, an equation at a time.
unknown_slots : (ℕ → Option Word) → List Equation → ℕ
unknown_slots known [] = 0
unknown_slots known (equation ∷ equations) = unknown_in known (slots equation) + unknown_slots known equations

-- `more` knows at least what `less` knows.
abbrev Extends : (ℕ → Option Word) → (ℕ → Option Word) → Type 0
Extends less more = (q : ℕ) → IsSome (less q) → IsSome (more q)

count_falls : (one other : Option Word) → (IsSome one → IsSome other) → count_unknown other ≤ count_unknown one
unfolding count_unknown
count_falls None None h = omega arith
count_falls None (Some w) h = omega arith
count_falls (Some v) None h = let e = h refl in absurd (cc)
count_falls (Some v) (Some w) h = omega arith

count_none : (o : Option Word) → o ≡ None → count_unknown o ≡ 1
unfolding count_unknown
count_none None e = refl
count_none (Some w) e = absurd (cc)

count_some : (o : Option Word) → IsSome o → count_unknown o ≡ 0
unfolding count_unknown
count_some None h = absurd (cc)
count_some (Some w) h = refl

unknown_in-falls :
    (less more : ℕ → Option Word) → Extends less more → (xs : List ℕ) → unknown_in more xs ≤ unknown_in less xs
unfolding unknown_in
unknown_in-falls less more ext [] = omega arith
unknown_in-falls less more ext (x ∷ xs) =
    omega (arith, count_falls (less x) (more x) (ext x), unknown_in-falls less more ext xs)

unknown_in-drops :
    (less more : ℕ → Option Word) → Extends less more → (p : ℕ) → less p ≡ None → IsSome (more p)
    → (xs : List ℕ) → Contains xs p → unknown_in more xs < unknown_in less xs
unfolding unknown_in
unknown_in-drops less more ext p unknown known [] c = absurd (Contains-nil p c)
unknown_in-drops less more ext p unknown known (x ∷ xs) c = ⊎_elim
    (λ same. (let a : less x ≡ None = (rw (← same) unknown) in let b : IsSome (more x) = (rw (← same) known) in
    omega (arith, count_none (less x) a, count_some (more x) b, unknown_in-falls less more ext xs)))
    (λ there.
    let rest = unknown_in-drops less more ext p unknown known xs there in
    omega (arith, count_falls (less x) (more x) (ext x), rest))
    (Contains-cases x xs p c)

unknown_slots-falls :
    (less more : ℕ → Option Word) → Extends less more → (equations : List Equation)
    → unknown_slots more equations ≤ unknown_slots less equations
unfolding unknown_slots
unknown_slots-falls less more ext [] = omega arith
unknown_slots-falls less more ext (equation ∷ equations) =
    omega (arith, unknown_in-falls less more ext (slots equation), unknown_slots-falls less more ext equations)

unknown_slots-drops :
    (less more : ℕ → Option Word) → Extends less more → (p : ℕ) → less p ≡ None → IsSome (more p)
    → (equation : Equation) → Contains (slots equation) p
    → (equations : List Equation) → Contains equations equation
    → unknown_slots more equations < unknown_slots less equations
unfolding unknown_slots
unknown_slots-drops less more ext p unknown known equation slot [] listed = absurd (Contains-nil equation listed)
unknown_slots-drops less more ext p unknown known equation slot (first ∷ equations) listed = ⊎_elim
    (λ same. (let here : Contains (slots first) p = (rw (← same) slot) in
    omega (arith, unknown_in-drops less more ext p unknown known (slots first) here, unknown_slots-falls less more ext equations)))
    (λ there.
    let rest = unknown_slots-drops less more ext p unknown known equation slot equations there in
    omega (arith, unknown_in-falls less more ext (slots first), rest))
    (Contains-cases first equations equation listed)

-- After a step fewer slots are unknown.
after_step-extends : (known : ℕ → Option Word) (step : Step) → Extends known (after_step known step)
after_step-extends known step q h = ⊎_elim
    (λ same. subst (λ p. IsSome (after_step known step p)) (sym same) (rw (after_step-at known step)))
    (λ n. rw (after_step-other known step q n) h)
    (same_or_not q step.position)

after_step-drops :
    (known : ℕ → Option Word) (equations : List Equation) (step : Step) → CanFollow known equations step
    → unknown_slots (after_step known step) equations < unknown_slots known equations
after_step-drops known equations step can =
    unknown_slots-drops known (after_step known step) (after_step-extends known step) step.position can.unknown
    (rw (after_step-at known step)) step.equation can.slot equations can.listed

-- One slot alone is unknown, or not.
abbrev IsLast : (ℕ → Option Word) → List ℕ → ℕ → Type 0
IsLast known positions p = (known p ≡ None) × ((q : ℕ) → Contains positions q → q ≢ p → IsSome (known q))

last_or_not :
    (known : ℕ → Option Word) (positions : List ℕ) (p : ℕ)
    → IsLast known positions p ⊎ (IsLast known positions p → ⊥)
last_or_not known positions p = ⊎_elim
    (λ k. inr (λ h. (let e = h.0 in cc)))
    (λ unknown. ⊎_elim
    (λ r. inr (λ h. (let k = h.1 r.0 r.1 r.2.0 in let e = r.2.1 in cc)))
    (λ all. inl (unknown, λ q c n. ⊎_elim (λ s. absurd (n s)) (λ k. k) (all q c)))
    (some_or_all (λ q. (q ≢ p) × (known q ≡ None)) (λ q. (q ≡ p) ⊎ IsSome (known q))
    (λ q. ⊎_elim
    (λ s. inr (inl s))
    (λ n. ⊎_elim (λ k. inr (inr k)) (λ u. inl (n, u)) (known_or_not (known q)))
    (same_or_not q p))
    positions))
    (known_or_not (known p))

-- A step can be made, or none can.
step_or_none :
    (known : ℕ → Option Word) (equations : List Equation)
    → ((step : Step) × CanFollow known equations step) ⊎ ((step : Step) → CanFollow known equations step → ⊥)
step_or_none known equations = ⊎_elim
    (λ r. inl (
      record { equation = r.0; position = r.2.0 },
      record { listed = r.1; slot = r.2.1; unknown = r.2.2.0; others_known = r.2.2.1 },
    ))
    (λ none. inr (λ step can. none step.equation can.listed step.position can.slot (can.unknown, can.others_known)))
    (some_or_all
    (λ equation. (p : ℕ) × Contains (slots equation) p × IsLast known (slots equation) p)
    (λ equation. (p : ℕ) → Contains (slots equation) p → IsLast known (slots equation) p → ⊥)
    (λ equation. some_or_all (IsLast known (slots equation)) (λ p. IsLast known (slots equation) p → ⊥)
    (last_or_not known (slots equation)) (slots equation))
    equations)

peel_all :
    (equations : List Equation) (fuel : ℕ) (known : ℕ → Option Word) → unknown_slots known equations ≤ fuel
    → (steps : List Step) × IsMaximal known equations steps
peel_all equations zero known few = (
  [],
  record {
    peeling = tt;
    no_more = λ step can. omega (arith, few, after_step-drops known equations step can);
  },
)
peel_all equations (suc fuel) known few = ⊎_elim
    (λ r. let step = r.0 in
    let fewer = after_step-drops known equations step r.1 in
    let rest = peel_all equations fuel (after_step known step) (omega (arith, few, fewer)) in
    (step ∷ rest.0, record { peeling = (r.1, rest.1.peeling); no_more = rest.1.no_more }))
    (λ none. ([], record { peeling = tt; no_more = none }))
    (step_or_none known equations)

pub maximal_exists :
    (known : ℕ → Option Word) (equations : List Equation) → (steps : List Step) × IsMaximal known equations steps
maximal_exists known equations = peel_all equations (unknown_slots known equations) known (omega arith)
