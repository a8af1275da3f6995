-- Losses that leave media records.
use Rattle.std.proofs.Common.{◌≡◌, ⊎_elim, ℕ, zero, suc, ◌+◌, ◌-◌, ◌*◌, ◌%◌, ◌<◌, ◌≤◌, Bool, true, false, cond, sym, ap, ◌∙◌, subst, arith}
use Rattle.std.proofs.lemmas.Bool.{cases_lt}
use Rattle.fg_shape.specs.declared.layouts.Layout.{Layout}
use Rattle.fg_shape.specs.Laws.{NumbersItsSlots}
use Rattle.fg_encode.proofs.ListLemmas.{bool_cases}
use Rattle.fg_thin.specs.Thinned.{media_number}
use Rattle.fg_drill.specs.Covered.{is_gone}
use Rattle.fg_surveyed.specs.Laws.{FewLossesLeaveMedia, NothingLostLeavesColumns, NothingLostLeavesMedia}

-- The last of so many that isn't lost.
last_left : (p : ℕ → Bool) (n : ℕ) → p 0 ≡ false → (l : ℕ) × (l ≤ n) × (p l ≡ false) × ((j : ℕ) → l < j → j ≤ n → p j ≡ true)
last_left p zero first = (0, omega arith, first, λ j above under. absurd (omega (arith, above, under)))
last_left p (suc n) first = ⊎_elim
    (λ (is : p (suc n) ≡ true).
    let before = last_left p n first in
    let most = before.1 in (
      before.0,
      omega (arith, most),
      before.2,
      λ j above under. ⊎_elim
          (λ (early : j < suc n). before.3 j above (omega (arith, early)))
          (λ (late : suc n ≤ j). let same : suc n ≡ j = omega (arith, late, under) in subst (λ (k : ℕ). p k ≡ true) same is)
          (cases_lt j (suc n)),
    ))
    (λ (is : p (suc n) ≡ false). (suc n, omega arith, is, λ j above under. absurd (omega (arith, above, under))))
    (bool_cases (p (suc n)))

pub few_leave : FewLossesLeaveMedia
few_leave layout count lost few some =
    let gone : ℕ → Bool = λ slot. is_gone layout lost slot in
    let first : gone 0 ≡ false = few.first in
    let l = last_left gone (count - 1) first in
    let most = l.1 in
    let within : l.0 < count = omega (arith, most, some) in (
      l.0,
      record {
        order = omega arith;
        within = within;
        first_left = first;
        last_left = l.2;
        none_before = λ slot early. absurd (omega (arith, early));
        none_after = λ slot past inside. l.3 slot past (omega (arith, inside));
        succession = λ slot from before. ⊎_elim
            (λ (far : slot + 1 + 32000 < count).
            let near = few.succession (slot + 1) far in
            let least = near.1 in
            let under : slot + 1 + near.0 ≤ l.0 = ⊎_elim
            (λ (past : l.0 < slot + 1 + near.0). absurd (let lost_there = l.3 (slot + 1 + near.0) past (omega (arith, least, far)) in let clash = sym lost_there ∙ near.2 in cc))
            (λ (before_last : slot + 1 + near.0 ≤ l.0). before_last)
            (cases_lt l.0 (slot + 1 + near.0)) in
            (slot + 1 + near.0, omega arith, under, omega (arith, least), near.2))
            (λ (close : count ≤ slot + 1 + 32000). (l.0, before, omega arith, omega (arith, close, within), l.2))
            (cases_lt (slot + 1 + 32000) count);
      },
    )

pub all_left : NothingLostLeavesMedia
all_left layout count lost none some = record {
  order = omega arith;
  within = omega (arith, some);
  first_left = none (media_number layout 0);
  last_left = none (media_number layout (count - 1));
  none_before = λ slot early. absurd (omega (arith, early));
  none_after = λ slot past inside. absurd (omega (arith, past, inside));
  succession = λ slot from before. (slot + 1, omega arith, omega (arith, before), omega arith, none (media_number layout (slot + 1)));
}

base_zero : (layout : Layout) (b : Bool) → 0 ≡ 0 * layout.l * layout.d + 0 + cond b (0 % layout.d) 0 * layout.l
base_zero layout true =
    let height = layout.accepted.height in
    let rest : 0 % layout.d ≡ 0 = omega (arith, height) in
    let product : 0 % layout.d * layout.l ≡ 0 * layout.l = ap (λ k. k * layout.l) rest in
    omega (arith, product)
base_zero layout false = omega arith

pub columns_left : NumbersItsSlots → NothingLostLeavesColumns
columns_left numbered layout count lost none below =
    let height = layout.accepted.height in
    let wide = layout.accepted.columns in
    record {
      slot = (layout.d - 1) * layout.l;
      base = 0;
      after = omega arith;
      within = below;
      ends = record {
        matrix = 0;
        column = 0;
        is_column = omega (arith, wide);
        first = base_zero layout layout.staggered;
        last = numbered 0 layout.l layout.d (layout.d - 1) (omega (arith, height)) ∙ (let same : 0 + (layout.d - 1) * layout.l ≡ (layout.d - 1) * layout.l = omega arith in same);
      };
      left = none (media_number layout ((layout.d - 1) * layout.l) + 1);
    }
