-- A burst that is no longer than a row takes one slot of a column at most, and block-aligned columns end with their matrix.
use Rattle.std.proofs.Common.{◌≡◌, ◌+◌, ◌-◌, ◌*◌, ◌/◌, ◌%◌, ◌<◌, ◌≤◌, ◌≢◌, ◌==◌, ◌||◌, ℕ, zero, suc, Bool, true, false, cond, List, [], ◌∷◌, map, refl, sym, ap, subst, ◌∙◌, ⊎_elim, arith, eq-eqb, ne_eqb}
use Rattle.std.proofs.lemmas.Bool.{cases_lt, cases_eq, false≢true}
use Rattle.std.proofs.lemmas.Nat.{div-add-mod', mod_below}
use Rattle.std.proofs.Math.Nat.{mul-le-mul_left, mul-le-mul_right}
use Rattle.std.specs.List.{Contains, list_any, range_with_len}
use Rattle.fg_shape.specs.declared.layouts.Layout.{Layout}
use Rattle.fg_shape.specs.Layout.{column_base}
use Rattle.fg_shape.specs.Shape.{slots_of}
use Rattle.fg_shape.proofs.LayoutLemmas.{column_ends}
use Rattle.fg_shape.proofs.ShapeLemmas.{number_of_slot, slot_of_number}
use Rattle.fg_shape.specs.declared.encoding.Losses.{Losses}
use Rattle.fg_encode.proofs.ListLemmas.{bool_cases}
use Rattle.fg_peel.proofs.Lists.{Contains-cases, Contains-from_map, Contains-here, Contains-map, Contains-nil, Contains-there}
use Rattle.fg_thin.specs.Thinned.{is_lost, media_number}
use Rattle.fg_drill.specs.Covered.{AreCovered, BurstsAreCovered, CoveredLossesAreFew, DropsAreBursts, HasInColumn, IsBurst, is_gone}
use Rattle.fg_drill.proofs.CoveredSent.{later_number}
use Rattle.fg_drill.proofs.LiveLines.{few_times}

-- Two slots have different media records.
not_later : (layout : Layout) (slot other : ℕ) → slot < other → media_number layout slot ≡ media_number layout other → ⊥
not_later layout slot other less same =
    let later = later_number layout slot (other - slot) in
    let at : slot + (other - slot) ≡ other = omega (arith, less) in
    let there = ap (media_number layout) at in
    omega (arith, later, there, same, less)

one_record : (layout : Layout) (slot other : ℕ) → media_number layout slot ≡ media_number layout other → slot ≡ other
one_record layout slot other same = ⊎_elim
    (λ (less : slot < other). absurd (not_later layout slot other less same))
    (λ (more : other ≤ slot). ⊎_elim
    (λ (less : other < slot). absurd (not_later layout other slot less (sym same)))
    (λ (few : slot ≤ other). omega (arith, more, few))
    (cases_lt other slot))
    (cases_lt slot other)

-- Two slots of a column lie a row apart.
apart_in_column :
    (layout : Layout) (base one other : ℕ) → Contains (slots_of base layout.l layout.d) one
    → Contains (slots_of base layout.l layout.d) other → one < other → one + layout.l ≤ other
apart_in_column layout base one other at at' less =
    let n = number_of_slot base layout.l layout.d one at in
    let m = number_of_slot base layout.l layout.d other at' in
    let is = n.2 in
    let is' = m.2 in
    ⊎_elim
    (λ (more : n.0 < m.0).
    let next : n.0 + 1 ≤ m.0 = omega (arith, more) in
    let much : (n.0 + 1) * layout.l ≤ m.0 * layout.l = mul-le-mul_right layout.l next in
    omega (arith, much, is, is'))
    (λ (few : m.0 ≤ n.0).
    let much : m.0 * layout.l ≤ n.0 * layout.l = mul-le-mul_right layout.l few in
    absurd (omega (arith, much, is, is', less)))
    (cases_lt n.0 m.0)

module _
    (layout : Layout) (count : ℕ) (lost : ℕ → Bool) (first size : ℕ) (flat : layout.staggered ≡ false)
    (narrow : size ≤ layout.l) (burst : IsBurst layout count lost first size) where
  -- A slot that loses its record lies in the burst.
  record IsInBurst (slot : ℕ) : Type 0 where
    low : first ≤ slot
    high : slot < first + size

  in_burst : (slot : ℕ) → is_gone layout lost slot ≡ true → IsInBurst slot
  in_burst slot gone =
      let is = (burst.lost_are (media_number layout slot)).0 gone in
      let same = one_record layout slot is.0 is.3 in
      let low = is.1 in
      let high = is.2 in
      record { low = omega (arith, same, low); high = omega (arith, same, high) }

  -- A slot is in a column that ends with its matrix.
  column_of :
      (slot : ℕ) → slot < first + size
      → (last : ℕ) × (base : ℕ) × HasInColumn layout last base slot × (last < count)
  column_of slot high =
      let l : ℕ = layout.l in
      let d : ℕ = layout.d in
      let p : ℕ = l * d in
      let some_columns = layout.accepted.columns.0 in
      let some_rows = layout.accepted.height.0 in
      let four : l * 4 ≤ l * d = mul-le-mul_left l some_rows in
      let some : 0 < p = omega (arith, four, some_columns) in
      let matrix : ℕ = slot / p in
      let place : ℕ = slot % p in
      let row : ℕ = place / l in
      let column : ℕ = place % l in
      let whole : slot / p * p + slot % p ≡ slot = div-add-mod' slot p in
      let inner : place / l * l + place % l ≡ place = div-add-mod' place l in
      let below : place < p = mod_below slot p some in
      let within : column < l = mod_below place l (omega (arith, some_columns)) in
      let few : row + 1 ≤ d = few_times l (row + 1) d (omega (arith, some_columns)) (omega (arith, inner, below, some_columns)) in
      let base : ℕ = matrix * l * d + column in
      let last : ℕ = base + (d - 1) * l in
      let is : base ≡ column_base layout matrix column =
      sym (ap (λ (b : Bool). matrix * l * d + column + cond b (column % d) 0 * l) flat
      ∙ zero_times (matrix * l * d + column) l) in
      let at : base + row * l ≡ slot = omega (arith, whole, inner) in
      let matrices = burst.whole.0 in
      let near = burst.whole.1 in
      let sent = burst.whole.2 in
      let next : matrix + 1 ≤ matrices = few_times p (matrix + 1) matrices some (omega (arith, whole, near, high, some)) in
      let much : (matrix + 1) * p ≤ matrices * p = mul-le-mul_right p next in
      let rows : d - 1 + 1 ≡ d = omega (arith, some_rows) in
      let all : (d - 1 + 1) * l ≡ d * l = ap (λ n. n * l) rows in
      let end : last < count = omega (arith, much, sent, all, within) in (
        last,
        base,
        (
          column_ends layout last base refl (matrix, column, within, is),
          subst (λ (s : ℕ). Contains (slots_of base l d) s) at (slot_of_number base l d row (omega (arith, few))),
        ),
        end,
      )
    where
      zero_times : (n l : ℕ) → n + 0 * l ≡ n
      zero_times n l = omega arith

  are_covered : AreCovered layout count lost
  are_covered = record {
    media = λ number gone. (let is = (burst.lost_are number).0 gone in (is.0, is.3));
    ended = λ slot within gone. column_of slot (in_burst slot gone).high;
    one = λ last base slot other in_column in_column' gone gone'.
        (let here = in_burst slot gone in
        let there = in_burst other gone' in
        let low = here.low in
        let high = here.high in
        let low' = there.low in
        let high' = there.high in
        ⊎_elim
        (λ (less : slot < other).
        let far = apart_in_column layout base slot other in_column.1 in_column'.1 less in
        absurd (omega (arith, far, low, high', narrow)))
        (λ (more : other ≤ slot). ⊎_elim
        (λ (less : other < slot).
        let far = apart_in_column layout base other slot in_column'.1 in_column.1 less in
        absurd (omega (arith, far, low', high, narrow)))
        (λ (few : slot ≤ other). omega (arith, more, few))
        (cases_lt other slot))
        (cases_lt slot other));
  }

  -- The first record isn't lost.
  first_is_kept : lost 0 ≡ false
  first_is_kept = ⊎_elim
      (λ (gone : lost 0 ≡ true).
      let is = (burst.lost_are 0).0 gone in
      let some = burst.some in
      let low = is.1 in
      let later = later_number layout 0 is.0 in
      let at : 0 + is.0 ≡ is.0 = omega arith in
      let there = ap (media_number layout) at in
      absurd (omega (arith, is.3, later, there, low, some)))
      (λ (kept : lost 0 ≡ false). kept)
      (bool_cases (lost 0))

pub bursts_are_covered : CoveredLossesAreFew → BurstsAreCovered
bursts_are_covered few layout count lost first size flat narrow burst =
    let covered = are_covered layout count lost first size flat narrow burst in
    (covered, few layout count lost (first_is_kept layout count lost first size flat narrow burst) covered)

-- What is asked for

-- A number is lost exactly where it is among the drops.
dropped : (drops : List ℕ) (number : ℕ) → (list_any (λ drop. drop == number) drops ≡ true) → Contains drops number
dropped [] number is = absurd (false≢true is)
dropped (drop ∷ drops) number is = ⊎_elim
    (λ (here : number ≡ drop). subst (λ (n : ℕ). Contains (drop ∷ drops) n) (sym here) (Contains-here drop drops))
    (λ (other : number ≢ drop).
    let differs : (drop == number) ≡ false = ne_eqb drop number (λ same. other (sym same)) in
    Contains-there drop drops number
    (dropped drops number (sym (ap (λ (b : Bool). b || list_any (λ drop. drop == number) drops) differs) ∙ is)))
    (cases_eq number drop)

is_dropped : (drops : List ℕ) (number : ℕ) → Contains drops number → list_any (λ drop. drop == number) drops ≡ true
is_dropped [] number at = absurd (Contains-nil number at)
is_dropped (drop ∷ drops) number at = ⊎_elim
    (λ here. ap (λ (b : Bool). b || list_any (λ drop. drop == number) drops) (eq-eqb drop number (sym here)))
    (λ there. either_way (drop == number) (is_dropped drops number there))
    (Contains-cases drop drops number at)
  where
    either_way : {rest : Bool} (b : Bool) → rest ≡ true → (b || rest) ≡ true
    either_way true is = refl
    either_way false is = is

drops_alone : (losses : Losses) (number : ℕ) → losses.every ≡ 0 → is_lost losses number ≡ list_any (λ drop. drop == number) losses.drops
drops_alone losses number none =
    ap (λ (every : ℕ). is_lost (record losses { every = every }) number) none
    ∙ or_false (list_any (λ drop. drop == number) losses.drops)
  where
    or_false : (b : Bool) → (b || false) ≡ b
    or_false true = refl
    or_false false = refl

pub drops_are_bursts : DropsAreBursts
drops_are_bursts layout count losses first size matrices drops none some near sent = record {
  lost_are = λ number. (
    λ gone.
        (let at : Contains losses.drops number = dropped losses.drops number (sym (drops_alone losses number none) ∙ gone) in
        let there = Contains-from_map (media_number layout) (range_with_len first size) number
        (subst (λ (xs : List ℕ). Contains xs number) drops at) in
        let range = within_range first size there.0 there.1 in
        (there.0, range.0, range.1, sym there.2)),
    λ is.
        (let low = is.1 in
        let high = is.2 in
        let at : first + (is.0 - first) ≡ is.0 = omega (arith, low) in
        let inside : Contains (range_with_len first size) is.0 =
        subst (λ (s : ℕ). Contains (range_with_len first size) s) at (in_range first size (is.0 - first) (omega (arith, low, high))) in
        let there = Contains-map (media_number layout) (range_with_len first size) is.0 inside in
        drops_alone losses number none
        ∙ is_dropped losses.drops number
        (subst (λ (xs : List ℕ). Contains xs number) (sym drops)
        (subst (λ (n : ℕ). Contains (map (media_number layout) (range_with_len first size)) n) (sym is.3) there))),
  );
  some = some;
  whole = (matrices, near, sent);
}
  where
    in_range : (from n i : ℕ) → i < n → Contains (range_with_len from n) (from + i)
    in_range from zero i below = absurd (omega (arith, below))
    in_range from (suc n) zero below =
        let at : from ≡ from + zero = omega arith in
        subst (λ (s : ℕ). Contains (range_with_len from (suc n)) s) at (Contains-here from (range_with_len (from + 1) n))
    in_range from (suc n) (suc i) below =
        let at : from + 1 + i ≡ from + suc i = omega arith in
        subst (λ (s : ℕ). Contains (range_with_len from (suc n)) s) at
        (Contains-there from (range_with_len (from + 1) n) (from + 1 + i) (in_range (from + 1) n i (omega (arith, below))))

    within_range : (from n j : ℕ) → Contains (range_with_len from n) j → (from ≤ j) × (j < from + n)
    within_range from zero j c = absurd (Contains-nil j c)
    within_range from (suc n) j c = ⊎_elim
        (λ here. (omega (arith, here), omega (arith, here)))
        (λ there.
        let r = within_range (from + 1) n j there in let a = r.0 in let b = r.1 in (omega (arith, a), omega (arith, b)))
        (Contains-cases from (range_with_len (from + 1) n) j c)
