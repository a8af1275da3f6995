-- Looking through an equation's slots for those with no word.
use Rattle.std.proofs.Common.{◌≡◌, ◌≢◌, ◌+◌, ◌<◌, ◌≤◌, ℕ, List, length, get_or, Option, Some, None, IsSome, is_some, true, Contains, refl, sym, ap, ◌∙◌, ⊎_elim, arith}
use Rattle.std.proofs.lemmas.List.{get_or_default}
use Rattle.std.proofs.lemmas.List.Elements.{Contains-get_or}
use Rattle.std.proofs.lemmas.Bool.{cases_eq}
use Rattle.fg_words.specs.declared.Word.{Word}
use Rattle.fg_shape.proofs.ShapeLemmas.{length-slots_of, get_or-slots_of, slots_apart}
use Rattle.fg_peel.specs.declared.span.Missing.TheVariants.{Nothing, One, Several}
use Rattle.fg_peel.specs.Equation.{Equation, slots}
use Rattle.fg_peel.specs.Slots.{IsMissing}

-- Of the first j slots, none or just this one has no word.
abbrev pub MissesBelow : (ℕ → Option Word) → List ℕ → ℕ → Option ℕ → Type 0
MissesBelow words xs j None = (k : ℕ) → k < j → IsSome (words (get_or xs k 0))
MissesBelow words xs j (Some position) =
    (i : ℕ) × (i < j) × (get_or xs i 0 ≡ position) × (words position ≡ None)
    × ((k : ℕ) → k < j → k ≢ i → IsSome (words (get_or xs k 0)))

pub misses_none : (words : ℕ → Option Word) (xs : List ℕ) → MissesBelow words xs 0 None
misses_none words xs k below = absurd (omega arith)

-- one more slot that has a word
pub misses_same :
    (words : ℕ → Option Word) (xs : List ℕ) (j : ℕ) (found : Option ℕ) → IsSome (words (get_or xs j 0))
    → MissesBelow words xs j found → MissesBelow words xs (j + 1) found
misses_same words xs j None has below = λ k less. ⊎_elim
    (λ same. rw same has)
    (λ other. below k (omega (arith, other)))
    (cases_eq k j)
misses_same words xs j (Some position) has below = (
  below.0,
  omega (arith, below.1),
  below.2,
  below.3,
  λ k less other. ⊎_elim
      (λ same. rw same has)
      (λ before. below.4 k (omega (arith, before)) other)
      (cases_eq k j),
)

-- the first slot that has none
pub misses_this :
    (words : ℕ → Option Word) (xs : List ℕ) (j : ℕ) → words (get_or xs j 0) ≡ None
    → MissesBelow words xs j None → MissesBelow words xs (j + 1) (Some (get_or xs j 0))
misses_this words xs j none below =
    (j, omega arith, refl, none, λ k less other. below k (omega (arith, other)))

-- an element has a place
pub place_of : (xs : List ℕ) (x : ℕ) → Contains xs x → (k : ℕ) × (k < length xs) × (get_or xs k 0 ≡ x)
place_of xs x c = (c.0, c.1, get_or_default xs c.0 0 x c.1 ∙ c.2)

module _ (words : ℕ → Option Word) (equation : Equation) where
  -- a second slot that has none
  pub misses_several :
      (j position : ℕ) → 1 ≤ equation.offset → j < equation.count → words (get_or (slots equation) j 0) ≡ None
      → MissesBelow words (slots equation) j (Some position) → IsMissing words equation Several
  misses_several j position some within none below =
      let size = length-slots_of equation.base equation.offset equation.count in
      let first : below.0 < length (slots equation) = omega (arith, below.1, size) in
      let second : j < length (slots equation) = omega (arith, size) in (
        get_or (slots equation) below.0 0,
        get_or (slots equation) j 0,
        Contains-get_or (slots equation) below.0 0 first,
        Contains-get_or (slots equation) j 0 second,
        λ same. (let equal : below.0 ≡ j = slots_apart equation.base equation.offset below.0 j some
            (sym (get_or-slots_of equation.base equation.offset equation.count below.0 0 (omega (arith, below.1))) ∙ same
            ∙ get_or-slots_of equation.base equation.offset equation.count j 0 within) in
            omega (arith, below.1)),
        ap words below.2 ∙ below.3,
        none,
      )

  pub misses_several_found :
      (j : ℕ) (found : Option ℕ) → 1 ≤ equation.offset → j < equation.count → words (get_or (slots equation) j 0) ≡ None
      → is_some found ≡ true → MissesBelow words (slots equation) j found → IsMissing words equation Several
  misses_several_found j None some within none is below = absurd (cc)
  misses_several_found j (Some position) some within none is below = misses_several j position some within none below

  -- all slots were looked at
  pub misses_nothing : MissesBelow words (slots equation) equation.count None → IsMissing words equation Nothing
  misses_nothing below position c =
      let p = place_of (slots equation) position c in
      rw p.2 at (below p.0 (omega (arith, p.1, length-slots_of equation.base equation.offset equation.count)))

  pub misses_one : (position : ℕ) → MissesBelow words (slots equation) equation.count (Some position) → IsMissing words equation (One position)
  misses_one position below = (
    rw below.2 at (Contains-get_or (slots equation) below.0 0 (omega (arith, below.1, length-slots_of equation.base equation.offset equation.count))),
    below.3,
    λ other c differs. (
        let p = place_of (slots equation) other c in
        rw p.2 at (below.4 p.0 (omega (arith, p.1, length-slots_of equation.base equation.offset equation.count))
        (λ same. differs (sym p.2 ∙ ap (λ k. get_or (slots equation) k 0) same ∙ below.2)))
        ),
  )
