-- Looking through a line's slots for those without a flag.
use Rattle.std.proofs.Common.{◌≡◌, ◌≢◌, ◌+◌, ◌-◌, ◌*◌, ◌^◌, ◌<◌, ◌≤◌, ℕ, Bool, true, false, List, length, get_or, Option, Some, None, is_some, Contains, sym, ap, ◌∙◌, ⊎_elim, arith, mul-le-mul_right}
use Rattle.std.proofs.lemmas.List.Elements.{Contains-get_or}
use Rattle.std.proofs.lemmas.Bool.{cases_eq}
use Rattle.fg_shape.proofs.ShapeLemmas.{length-slots_of, get_or-slots_of, slots_apart, number_of_slot}
use Rattle.fg_peel.proofs.Misses.{place_of}
use Rattle.fg_closure.specs.declared.search.LineSlots.{LineSlots}
use Rattle.fg_closure.specs.declared.search.Lacking.TheVariants.{Nothing, One, Several}
use Rattle.fg_closure.specs.Flags.{IsFlagged, slots_at, HasFlags, AreWithout}

-- A flag's position.
pub flagged_here : (first k : ℕ) (flags : List Bool) → get_or flags k false ≡ true → IsFlagged first flags (first + k)
flagged_here first k flags is = let same : first + k - first ≡ k = omega arith in (omega arith, rw same is)

pub flagged_not : (first k : ℕ) (flags : List Bool) → get_or flags k false ≡ false → IsFlagged first flags (first + k) → ⊥
flagged_not first k flags is flagged =
    let same : first + k - first ≡ k = omega arith in let yes : get_or flags k false ≡ true = rw same at flagged.1 in cc

-- Of the first j slots, none or just this one is without.
abbrev pub MissesBelow : (ℕ → Type 0) → List ℕ → ℕ → Option ℕ → Type 0
MissesBelow P xs j None = (k : ℕ) → k < j → P (get_or xs k 0)
MissesBelow P xs j (Some position) =
    (i : ℕ) × (i < j) × (get_or xs i 0 ≡ position) × (¬ P position) × ((k : ℕ) → k < j → k ≢ i → P (get_or xs k 0))

pub misses_none : (P : ℕ → Type 0) (xs : List ℕ) → MissesBelow P xs 0 None
misses_none P xs k below = absurd (omega arith)

-- What holds at each number below j, and at j, holds below j + 1.
one_more : (Q : ℕ → Type 0) (j : ℕ) → Q j → ((k : ℕ) → k < j → Q k) → (k : ℕ) → k < j + 1 → Q k
one_more Q j here below k less = ⊎_elim (λ same. rw same here) (λ other. below k (omega (arith, other))) (cases_eq k j)

-- one more slot that is with it
pub misses_same :
    (P : ℕ → Type 0) (xs : List ℕ) (j : ℕ) (found : Option ℕ) → P (get_or xs j 0)
    → MissesBelow P xs j found → MissesBelow P xs (j + 1) found
misses_same P xs j None has below = one_more (λ k. P (get_or xs k 0)) j has below
misses_same P xs j (Some position) has below = (
  below.0,
  omega (arith, below.1),
  below.2,
  below.3,
  one_more (λ k. k ≢ below.0 → P (get_or xs k 0)) j (λ _. has) below.4,
)

-- the first slot that is without
pub misses_this :
    (P : ℕ → Type 0) (xs : List ℕ) (j position : ℕ) (found : Option ℕ) → get_or xs j 0 ≡ position → (¬ P position) → is_some found ≡ false
    → MissesBelow P xs j found → MissesBelow P xs (j + 1) (Some position)
misses_this P xs j position None here none is below =
    (j, omega arith, here, none, λ k less other. below k (omega (arith, other)))
misses_this P xs j position (Some other) here none is below = absurd (cc)

module _ (P : ℕ → Type 0) (line : LineSlots) where
  -- a second slot that is without
  pub misses_two :
      (j position second : ℕ) → 1 ≤ line.shape.offset → j < line.shape.na → get_or (slots_at line) j 0 ≡ second → (¬ P second)
      → MissesBelow P (slots_at line) j (Some position) → AreWithout P (slots_at line) (Several position second)
  misses_two j position second some within here none below =
      let size = length-slots_of line.base line.shape.offset line.shape.na in
      let first : below.0 < length (slots_at line) = omega (arith, below.1, size) in
      let next : j < length (slots_at line) = omega (arith, size) in (
        rw below.2 at (Contains-get_or (slots_at line) below.0 0 first),
        rw here at (Contains-get_or (slots_at line) j 0 next),
        λ same. (let equal : below.0 ≡ j = slots_apart line.base line.shape.offset below.0 j some
            (sym (get_or-slots_of line.base line.shape.offset line.shape.na below.0 0 (omega (arith, below.1))) ∙ below.2 ∙ same ∙ sym here
            ∙ get_or-slots_of line.base line.shape.offset line.shape.na j 0 within) in
            omega (arith, below.1)),
        below.3,
        none,
      )

  pub misses_several :
      (j position second : ℕ) (found : Option ℕ) → 1 ≤ line.shape.offset → j < line.shape.na → get_or (slots_at line) j 0 ≡ second → (¬ P second)
      → found ≡ Some position → MissesBelow P (slots_at line) j found → AreWithout P (slots_at line) (Several position second)
  misses_several j position second found some within here none is below =
      misses_two j position second some within here none (rw is at below)

  -- all slots were looked at
  pub misses_nothing : (j : ℕ) (found : Option ℕ) → line.shape.na ≤ j → found ≡ None → MissesBelow P (slots_at line) j found
      → AreWithout P (slots_at line) Nothing
  misses_nothing j found all is below position c =
      let none : MissesBelow P (slots_at line) j None = rw is at below in
      let p = place_of (slots_at line) position c in
      rw p.2 at (none p.0 (omega (arith, p.1, length-slots_of line.base line.shape.offset line.shape.na)))

  pub misses_one : (j position : ℕ) (found : Option ℕ) → j ≡ line.shape.na → found ≡ Some position → MissesBelow P (slots_at line) j found
      → AreWithout P (slots_at line) (One position)
  misses_one j position found all is told =
      let below : MissesBelow P (slots_at line) j (Some position) = rw is at told in (
        rw below.2 at (Contains-get_or (slots_at line) below.0 0 (omega (arith, below.1, length-slots_of line.base line.shape.offset line.shape.na))),
        below.3,
        λ other c differs. (
            let p = place_of (slots_at line) other c in
            rw p.2 at (below.4 p.0 (omega (arith, p.1, length-slots_of line.base line.shape.offset line.shape.na))
            (λ same. differs (sym p.2 ∙ ap (λ k. get_or (slots_at line) k 0) same ∙ below.2)))
            ),
      )

-- A slot by its number: its flag, its position, and that they fit.
pub record IsSlot (first count : ℕ) (line : LineSlots) (j : ℕ) : Type 0 where
  pub flag : (line.base - first) + j * line.shape.offset < count
  pub position : first + ((line.base - first) + j * line.shape.offset) ≡ get_or (slots_at line) j 0
  pub product : j * line.shape.offset ≤ 400
  pub limit : get_or (slots_at line) j 0 < 2 ^ 63

pub is_slot : (first count : ℕ) (line : LineSlots) (j : ℕ) → HasFlags first count line → j < line.shape.na → IsSlot first count line j
is_slot first count line j has within =
    let shape = has.shape in let from = has.from in let upto = has.upto in let base = has.base in
    let offset = shape.offset_limit in let na = shape.slot_limit in
    let few : j ≤ line.shape.na - 1 = omega arith in
    let product = mul-le-mul_right line.shape.offset few in
    let span = shape.span in
    let at = get_or-slots_of line.base line.shape.offset line.shape.na j 0 within in record {
      flag = omega (arith, product, from, upto);
      position = omega (arith, at, from);
      product = omega (arith, product, span);
      limit = omega (arith, at, product, span, base);
    }

-- A slot is one of the positions that have flags.
pub slot_within : (first count : ℕ) (line : LineSlots) (slot : ℕ) → HasFlags first count line → Contains (slots_at line) slot
    → (first ≤ slot) × (slot - first < count)
slot_within first count line slot has c =
    let n = number_of_slot line.base line.shape.offset line.shape.na slot c in
    let is = is_slot first count line n.0 has n.1 in
    let at = get_or-slots_of line.base line.shape.offset line.shape.na n.0 0 n.1 in
    let flag = is.flag in let from = has.from in let e = n.2 in
    (omega (arith, e, from), omega (arith, e, from, flag))

-- The position of a slot, as the code finds it.
pub at_slot : (first count : ℕ) (line : LineSlots) (j number step : ℕ) → HasFlags first count line → j < line.shape.na → number ≡ j
    → step ≡ line.shape.offset → get_or (slots_at line) j 0 ≡ first + ((line.base - first) + number * step)
at_slot first count line j number step has within same same' = rw (same, same') (sym (is_slot first count line j has within).position)

-- It can be watched.
pub slot_limit : (first count : ℕ) (line : LineSlots) (slot : ℕ) → HasFlags first count line → Contains (slots_at line) slot → slot < 2 ^ 63
slot_limit first count line slot has c =
    let n = number_of_slot line.base line.shape.offset line.shape.na slot c in
    let limit = (is_slot first count line n.0 has n.1).limit in
    let at = get_or-slots_of line.base line.shape.offset line.shape.na n.0 0 n.1 in let e = n.2 in
    omega (arith, e, at, limit)
