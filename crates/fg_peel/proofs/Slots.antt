-- The slots of an equation differ from each other.
use Rattle.std.proofs.Common.{◌≡◌, ◌+◌, ◌-◌, ◌*◌, ◌<◌, ◌≤◌, ℕ, zero, suc, map, All, ⊎_elim, arith}
use Rattle.std.specs.List.{Contains, range_with_len}
use Rattle.std.proofs.lemmas.List.Elements.{All-contains}
use Rattle.fg_shape.specs.Shape.{slots_of, IsShape}
use Rattle.fg_peel.specs.declared.Line.{Line}
use Rattle.fg_peel.specs.Slots.{equation_of, FitsFrom}
use Rattle.fg_peel.specs.Equation.{Equation, slots}
use Rattle.fg_peel.proofs.Lists.{Contains-nil, Contains-cases, Distinct}

-- Each slot from number `from` on is some offsets past the base.
numbered :
    (base offset from n s : ℕ) → Contains (map (λ j. base + j * offset) (range_with_len from n)) s
    → (d : ℕ) × (s ≡ base + (from + d) * offset)
numbered base offset from zero s c = absurd (Contains-nil s c)
numbered base offset from (suc n) s c =
    ⊎_elim
    (λ here. (0, omega (arith, here)))
    (λ there. let r = numbered base offset (from + 1) n s there in (r.0 + 1, omega (arith, r.1)))
    (Contains-cases (base + from * offset) (map (λ j. base + j * offset) (range_with_len (from + 1) n)) s c)

distinct_from : (base offset from n : ℕ) → 1 ≤ offset → Distinct (map (λ j. base + j * offset) (range_with_len from n))
distinct_from base offset from zero some = tt
distinct_from base offset from (suc n) some = (
  λ c. let r = numbered base offset (from + 1) n (base + from * offset) c in omega (arith, r.1),
  distinct_from base offset (from + 1) n some,
)

pub slots_distinct : (equation : Equation) → 1 ≤ equation.offset → Distinct (slots equation)
slots_distinct equation some = distinct_from equation.base equation.offset 0 equation.count some

-- No slot is before the base.
slot_from_base : (base offset count s : ℕ) → Contains (slots_of base offset count) s → base ≤ s
slot_from_base base offset count s c = let r = numbered base offset 0 count s c in omega (arith, r.1)

-- A line whose base isn't before the first position, and whose greatest slot is before the end.
pub fits_by_last :
    (start count : ℕ) (line : Line) (last : ℕ) → IsShape line.shape.offset line.shape.na → start ≤ line.base
    → All (λ slot. slot ≤ last) (slots (equation_of line)) → last - start < count → FitsFrom start count line
fits_by_last start count line last shape first greatest below = record {
  shape = shape;
  within = λ position c. (
      let from = slot_from_base line.base line.shape.offset line.shape.na position c in
      let upto = All-contains (λ slot. slot ≤ last) (slots (equation_of line)) position greatest c in
      (omega arith, omega arith)
      );
}
