-- The slots of an equation by their numbers, for this crate and its callers.
use Rattle.std.proofs.Common.{◌≡◌, ℕ, ◌+◌, ◌-◌, ◌*◌, ◌/◌, ◌%◌, ◌<◌, ◌≤◌, length, get_or, Contains, All, sym, ap, ◌∙◌, ⊎_elim, arith, zero-add}
use Rattle.std.proofs.lemmas.List.FromFn.{length-map-range_with_len, get_or-map-range_with_len}
use Rattle.std.proofs.Math.Nat.{mul-div_cancel, mul-mod_left, mul-le-mul_right}
use Rattle.std.proofs.lemmas.Nat.{div-add-mod'}
use Rattle.std.proofs.lemmas.Bool.{cases_lt}
use Rattle.fg_shape.specs.Shape.{slots_of}

pub length-slots_of : (base offset na : ℕ) → length (slots_of base offset na) ≡ na
length-slots_of base offset na = length-map-range_with_len (λ j. base + j * offset) 0 na

pub get_or-slots_of : (base offset na j d : ℕ) → j < na → get_or (slots_of base offset na) j d ≡ base + j * offset
get_or-slots_of base offset na j d below =
    get_or-map-range_with_len (λ i. base + i * offset) 0 na j j d below (zero-add j)

-- what stands at a number is a slot
pub slot_of_number : (base offset na j : ℕ) → j < na → Contains (slots_of base offset na) (base + j * offset)
slot_of_number base offset na j below =
    (j, omega (arith, length-slots_of base offset na, below), get_or-slots_of base offset na j (base + j * offset) below)

-- each slot has a number
pub number_of_slot : (base offset na s : ℕ) → Contains (slots_of base offset na) s → (j : ℕ) × (j < na) × (s ≡ base + j * offset)
number_of_slot base offset na s p =
    let below : p.0 < na = omega (arith, p.1, length-slots_of base offset na) in
    (p.0, below, sym p.2 ∙ get_or-slots_of base offset na p.0 s below)

-- slots of different numbers differ
pub slots_apart : (base offset i j : ℕ) → 1 ≤ offset → base + i * offset ≡ base + j * offset → i ≡ j
slots_apart base offset i j some same =
    let products : i * offset ≡ j * offset = omega arith in
    sym (mul-div_cancel i some) ∙ ap (λ x. x / offset) products ∙ mul-div_cancel j some

-- a whole number of offsets past the base, and not past a slot
pub slot_from_division :
    (base offset na s end : ℕ) → base ≤ s → s ≤ end → Contains (slots_of base offset na) end → 1 ≤ offset → (s - base) % offset ≡ 0
    → Contains (slots_of base offset na) s
slot_from_division base offset na s end above within last some whole =
    let number = (s - base) / offset in
    let n = number_of_slot base offset na end last in
    let steps : (s - base) / offset * offset + (s - base) % offset ≡ s - base = div-add-mod' (s - base) offset in
    let there : base + (s - base) / offset * offset ≡ s = omega arith in
    let few : (s - base) / offset ≤ n.0 = ⊎_elim
    (λ more. (let much = mul-le-mul_right offset more in absurd (omega (arith, much, n.2, steps))))
    (λ less. less)
    (cases_lt n.0 ((s - base) / offset)) in
    rw there at (slot_of_number base offset na ((s - base) / offset) (omega (arith, few, n.1)))

pub division_from_slot : (base offset na s : ℕ) → 1 ≤ offset → Contains (slots_of base offset na) s → (base ≤ s) × ((s - base) % offset ≡ 0)
division_from_slot base offset na s some p =
    let n = number_of_slot base offset na s p in
    let distance : s - base ≡ n.0 * offset = omega (arith, n.2) in
    (omega (arith, n.2), ap (λ x. x % offset) distance ∙ mul-mod_left n.0 offset)

-- no slot is past the last
pub all_below_last : (base offset na : ℕ) → 1 ≤ na → All (λ s. s ≤ base + (na - 1) * offset) (slots_of base offset na)
all_below_last base offset na some k d within =
    let below : k < na = omega (arith, length-slots_of base offset na, within) in
    let few : k ≤ na - 1 = omega arith in
    omega (arith, get_or-slots_of base offset na k d below, mul-le-mul_right offset few)
