-- The slots of a shape lie near each other.
use Rattle.std.proofs.Common.{◌≡◌, ◌+◌, ◌-◌, ◌*◌, ◌<◌, ◌≤◌, ℕ, zero, suc, [], length, get_or, ⊎_elim, arith, mul-le-mul_right}
use Rattle.std.proofs.lemmas.List.FromFn.{get_or-map-range_with_len}
use Rattle.std.specs.List.{All, Contains, range_with_len}
use Rattle.fg_shape.specs.Shape.{IsShape, slots_of}
use Rattle.fg_shape.proofs.ShapeLemmas.{length-slots_of}
use Rattle.fg_peel.specs.Equation.{Equation, slots}
use Rattle.fg_peel.proofs.Lists.{Contains-nil, Contains-cases, Contains-from_map}
use Rattle.fg_peel.specs.Live.{last_slot}

within_range : (from n j : ℕ) → Contains (range_with_len from n) j → (from ≤ j) × (j < from + n)
within_range from zero j c = absurd (Contains-nil j c)
within_range from (suc n) j c = ⊎_elim
    (λ here. (omega (arith, here), omega (arith, here)))
    (λ there. let r = within_range (from + 1) n j there in let a = r.0 in let b = r.1 in (omega (arith, a), omega (arith, b)))
    (Contains-cases from (range_with_len (from + 1) n) j c)

pub record IsNear (equation : Equation) (slot : ℕ) : Type 0 where
  pub first : equation.base ≤ slot
  pub last : slot ≤ last_slot equation
  pub span : last_slot equation ≤ equation.base + 99

pub slot_is_near : (equation : Equation) (slot : ℕ) → IsShape equation.offset equation.count → Contains (slots equation) slot → IsNear equation slot
slot_is_near equation slot shape c =
    let r = Contains-from_map (λ (j : ℕ). equation.base + j * equation.offset) (range_with_len 0 equation.count) slot c in
    let range = within_range 0 equation.count r.0 r.1 in
    let below : r.0 < equation.count = omega (arith, range.1) in
    let factor : r.0 ≤ equation.count - 1 = omega (arith, below) in
    let product : r.0 * equation.offset ≤ (equation.count - 1) * equation.offset = mul-le-mul_right equation.offset factor in
    let is : equation.base + r.0 * equation.offset ≡ slot = r.2 in
    let span = shape.span in
    record { first = omega (arith, is); last = omega (arith, is, product); span = omega (arith, span) }

-- The greatest of an equation's.
pub last_is :
    (equation : Equation) (last : ℕ) → IsShape equation.offset equation.count → Contains (slots equation) last
    → All (λ slot. slot ≤ last) (slots equation) → last ≡ last_slot equation
last_is equation last shape c greatest =
    let some = shape.some_slot in
    let within : equation.count - 1 < equation.count = omega arith in
    let less : equation.count - 1 < length (slots equation) =
    omega (arith, length-slots_of equation.base equation.offset equation.count) in
    let above : get_or (slots equation) (equation.count - 1) 0 ≤ last = greatest (equation.count - 1) 0 less in
    let at : get_or (slots equation) (equation.count - 1) 0 ≡ last_slot equation =
    get_or-map-range_with_len (λ j. equation.base + j * equation.offset) 0 equation.count (equation.count - 1) (equation.count - 1) 0 within (omega arith) in
    let near = (slot_is_near equation last shape c).last in
    omega (arith, above, at, near)

-- The last slot, whatever the parity word.
pub last_at :
    (base offset count last : ℕ) → IsShape offset count → Contains (slots_of base offset count) last
    → All (λ slot. slot ≤ last) (slots_of base offset count) → last ≡ base + (count - 1) * offset
last_at base offset count last shape c greatest =
    last_is (record { base = base; offset = offset; count = count; parity = record { pt = 0; ts = 0; len = 0; bytes = [] } }) last shape c
    greatest
