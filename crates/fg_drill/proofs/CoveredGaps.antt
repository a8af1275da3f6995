-- Covered losses leave no long gap: of three slots one below the other two are in one column.
use Rattle.std.proofs.Common.{◌≡◌, ◌+◌, ◌-◌, ◌*◌, ◌<◌, ◌≤◌, ◌⊎◌, ℕ, Bool, true, false, inl, inr, sym, ap, subst, ⊎_elim, arith}
use Rattle.std.proofs.lemmas.Bool.{cases_lt}
use Rattle.std.proofs.lemmas.Nat.{same_from_place}
use Rattle.std.specs.List.{Contains}
use Rattle.fg_shape.specs.declared.layouts.Layout.{Layout}
use Rattle.fg_shape.specs.Layout.{ColumnEnds, first_row}
use Rattle.fg_shape.specs.Shape.{slots_of}
use Rattle.fg_shape.proofs.ShapeLemmas.{number_of_slot, slot_of_number}
use Rattle.fg_encode.proofs.ListLemmas.{bool_cases}
use Rattle.fg_drill.specs.Covered.{AreCovered, CoveredLossesAreFew, HasInColumn, is_gone}

-- No column begins right below another one.
no_column_below :
    (layout : Layout) (last last' base base' : ℕ) → ColumnEnds layout last base → ColumnEnds layout last' base'
    → base' ≡ base + layout.l → ⊥
no_column_below layout last last' base base' one other below =
    let l : ℕ = layout.l in
    let d : ℕ = layout.d in
    let height = layout.accepted.height.0 in
    let first = one.first in
    let first' = other.first in
    let split : (one.matrix * d + first_row layout one.column + 1) * l + one.column
    ≡ (other.matrix * d + first_row layout other.column) * l + other.column = omega (arith, first, first', below) in
    let place = same_from_place (one.matrix * d + first_row layout one.column + 1) one.column
    (other.matrix * d + first_row layout other.column) other.column l one.is_column other.is_column split in
    let row : first_row layout one.column ≡ first_row layout other.column = ap (λ (c : ℕ). first_row layout c) place.1 in
    let rows : one.matrix * d + 1 ≡ other.matrix * d + 0 = omega (arith, place.0, row) in
    let same = same_from_place one.matrix 1 other.matrix 0 d (omega (arith, height)) (omega (arith, height)) rows in
    absurd (omega (arith, same.1))

module _ (layout : Layout) (count : ℕ) (lost : ℕ → Bool) (covered : AreCovered layout count lost) where
  -- A lost slot above another lost one is the last of its column.
  last_of_column :
      (slot last base : ℕ) → HasInColumn layout last base slot → is_gone layout lost slot ≡ true
      → is_gone layout lost (slot + layout.l) ≡ true → slot ≡ base + (layout.d - 1) * layout.l
  last_of_column slot last base in_column here below =
      let n = number_of_slot base layout.l layout.d slot in_column.1 in
      let is = n.2 in
      let within = n.1 in
      let some = layout.accepted.columns.0 in
      ⊎_elim
      (λ (more : n.0 + 1 < layout.d).
      let at : base + (n.0 + 1) * layout.l ≡ slot + layout.l = omega (arith, is) in
      let next : Contains (slots_of base layout.l layout.d) (slot + layout.l) =
      subst (λ (s : ℕ). Contains (slots_of base layout.l layout.d) s) at (slot_of_number base layout.l layout.d (n.0 + 1) more) in
      let same = covered.one last base slot (slot + layout.l) in_column (in_column.0, next) here below in
      absurd (omega (arith, same, some)))
      (λ (end : layout.d ≤ n.0 + 1).
      let number : n.0 ≡ layout.d - 1 = omega (arith, end, within) in
      let product : n.0 * layout.l ≡ (layout.d - 1) * layout.l = ap (λ k. k * layout.l) number in
      omega (arith, is, product))
      (cases_lt (n.0 + 1) layout.d)

  pub not_three :
      (slot : ℕ) → slot + 2 * layout.l < count → is_gone layout lost slot ≡ true → is_gone layout lost (slot + layout.l) ≡ true
      → is_gone layout lost (slot + layout.l + layout.l) ≡ true → ⊥
  not_three slot within one two three =
      let a = covered.ended slot (omega (arith, within)) one in
      let b = covered.ended (slot + layout.l) (omega (arith, within)) two in
      let first = last_of_column slot a.0 a.1 a.2 one two in
      let second = last_of_column (slot + layout.l) b.0 b.1 b.2 two three in
      no_column_below layout a.0 b.0 a.1 b.1 a.2.0 b.2.0 (omega (arith, first, second))

  -- So a slot whose predecessors are lost, back to one that isn't, comes soon after that.
  pub gap_is_short :
      (before slot : ℕ) → slot < count
      → ((other : ℕ) → before < other → other ≤ slot → is_gone layout lost other ≡ true) → slot ≤ before + 2 * layout.l
  gap_is_short before slot within between = ⊎_elim
      (λ (far : before + 2 * layout.l < slot).
      let some = layout.accepted.columns.0 in
      absurd (not_three (before + 1) (omega (arith, far, within))
      (between (before + 1) (omega arith) (omega (arith, far)))
      (between (before + 1 + layout.l) (omega arith) (omega (arith, far)))
      (between (before + 1 + layout.l + layout.l) (omega arith) (omega (arith, far)))))
      (λ (close : slot ≤ before + 2 * layout.l). close)
      (cases_lt (before + 2 * layout.l) slot)

-- So covered losses are few.
pub covered_are_few : CoveredLossesAreFew
covered_are_few layout count lost first covered = record {
  first = first;
  succession = λ slot within.
      (let few = layout.accepted.columns.1 in
      let still : slot + 0 ≡ slot = omega arith in
      let one : slot + layout.l + layout.l ≡ slot + (layout.l + layout.l) = omega arith in
      ⊎_elim
      (λ (kept : is_gone layout lost slot ≡ false).
      (0, omega arith, subst (λ (s : ℕ). is_gone layout lost s ≡ false) (sym still) kept))
      (λ (gone : is_gone layout lost slot ≡ true). ⊎_elim
      (λ (kept : is_gone layout lost (slot + layout.l) ≡ false). (layout.l, omega (arith, few), kept))
      (λ (gone' : is_gone layout lost (slot + layout.l) ≡ true). ⊎_elim
      (λ (kept : is_gone layout lost (slot + layout.l + layout.l) ≡ false).
      (layout.l + layout.l, omega (arith, few), subst (λ (s : ℕ). is_gone layout lost s ≡ false) one kept))
      (λ (gone'' : is_gone layout lost (slot + layout.l + layout.l) ≡ true).
      absurd (not_three layout count lost covered slot (omega (arith, within, few)) gone gone' gone''))
      (kept_or_gone (slot + layout.l + layout.l)))
      (kept_or_gone (slot + layout.l)))
      (kept_or_gone slot));
}
  where
    kept_or_gone : (slot : ℕ) → (is_gone layout lost slot ≡ false) ⊎ (is_gone layout lost slot ≡ true)
    kept_or_gone slot = ⊎_elim (λ gone. inr gone) (λ kept. inl kept) (bool_cases (is_gone layout lost slot))
