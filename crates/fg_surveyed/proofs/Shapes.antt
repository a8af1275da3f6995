-- Parity of one layout shows that layout.
use Rattle.std.proofs.Common.{◌≡◌, ◌≢◌, ⊎_elim, ℕ, zero, suc, ◌+◌, ◌-◌, ◌*◌, ◌/◌, ◌%◌, ◌<◌, ◌≤◌, Bool, true, false, cond, eqb, ltb, ◌&&◌, List, [], ◌∷◌, length, refl, sym, ap, ◌∙◌, arith}
use Rattle.std.specs.List.{AllByRecursion, count_by}
use Rattle.std.proofs.lemmas.Bool.{cases_lt, eqb-true, eq-eqb, le-ltb, lt-ltb}
use Rattle.fg_encode.proofs.ListLemmas.{bool_cases}
use Rattle.fg_survey.specs.declared.tally.Matrix.{Matrix}
use Rattle.fg_survey.specs.Matrix.{Protection, commonest, has_shape, matrix_by, matrix_of, shape_count}
use Rattle.fg_surveyed.proofs.Counting.{count_cons, one_if}

-- Where only one place has a count, it is the commonest.

below : (count : ℕ → ℕ) (n : ℕ) → commonest count (suc n) ≤ n
unfolding commonest
below count zero = ⊎_elim
    (λ (yes : ltb (count 0) (count 0) ≡ true). let is = ap {B = ℕ} (λ b. cond b 0 0) yes in omega (arith, is))
    (λ (no : ltb (count 0) (count 0) ≡ false). let is = ap {B = ℕ} (λ b. cond b 0 0) no in omega (arith, is))
    (bool_cases (ltb (count 0) (count 0)))
below count (suc n) =
    let before = commonest count (suc n) in
    let least = below count n in
    ⊎_elim
    (λ (yes : ltb (count before) (count (suc n)) ≡ true). let is = ap (λ b. cond b (suc n) before) yes in omega (arith, is, least))
    (λ (no : ltb (count before) (count (suc n)) ≡ false). let is = ap (λ b. cond b (suc n) before) no in omega (arith, is, least))
    (bool_cases (ltb (count before) (count (suc n))))

next : (count : ℕ → ℕ) (n : ℕ) → commonest count (suc n) ≡ cond (ltb (count (commonest count n)) (count n)) n (commonest count n)
unfolding commonest
next count n = refl

begin : (count : ℕ → ℕ) → commonest count zero ≡ 0
unfolding commonest
begin count = refl

last_place : (count : ℕ → ℕ) (place : ℕ) → 0 < count place → ((j : ℕ) → j ≢ place → count j ≡ 0) → commonest count (suc place) ≡ place
last_place count zero some none =
    let first = begin count in
    next count zero ∙ ap (λ c. cond (ltb (count c) (count 0)) 0 c) first
    ∙ ap {B = ℕ} (λ b. cond b 0 0) (le-ltb (count 0) (count 0) (omega arith))
last_place count (suc n) some none =
    let c = commonest count (suc n) in
    let least = below count n in
    let nothing = none c (λ same. absurd (omega (arith, same, least))) in
    next count (suc n) ∙ ap (λ b. cond b (suc n) c) (lt-ltb (count c) (count (suc n)) (omega (arith, nothing, some)))

pub commonest_is : (count : ℕ → ℕ) (place n : ℕ) → place < n → 0 < count place → ((j : ℕ) → j ≢ place → count j ≡ 0) → commonest count n ≡ place
commonest_is count place zero inside some none = absurd (omega (arith, inside))
commonest_is count place (suc n) inside some none = ⊎_elim
    (λ (early : place < n).
    let before = commonest_is count place n early some none in
    let nothing = none n (λ same. absurd (omega (arith, same, early))) in
    next count n ∙ ap (λ c. cond (ltb (count c) (count n)) n c) before
    ∙ ap (λ b. cond b n place) (le-ltb (count place) (count n) (omega (arith, nothing))))
    (λ (late : n ≤ place).
    let same : suc n ≡ suc place = omega (arith, late, inside) in
    ap (λ m. commonest count m) same ∙ last_place count place some none)
    (cases_lt place n)

-- Parity of one shape

pub record IsOf (offset number : ℕ) (p : Protection) : Type 0 where
  pub offset_is : p.offset ≡ offset
  pub number_is : p.number ≡ number

both_true : (a b : Bool) → a ≡ true → b ≡ true → (a && b) ≡ true
both_true true b one other = other
both_true false b one other = absurd cc

both_of : (a b : Bool) → (a && b) ≡ true → (a ≡ true) × (b ≡ true)
both_of true b h = (refl, h)
both_of false b h = absurd cc

shape_here : (w h : ℕ) (p : Protection) → IsOf w h p → has_shape w h p ≡ true
shape_here w h p is = both_true (eqb p.offset w) (eqb p.number h) (eq-eqb p.offset w is.offset_is) (eq-eqb p.number h is.number_is)

shape_other : (w h w' h' : ℕ) (p : Protection) → IsOf w h p → (w ≡ w' → h ≡ h' → ⊥) → has_shape w' h' p ≡ false
shape_other w h w' h' p is other = ⊎_elim
    (λ (yes : has_shape w' h' p ≡ true).
    let both = both_of (eqb p.offset w') (eqb p.number h') yes in
    absurd (other (sym is.offset_is ∙ eqb-true p.offset w' both.0) (sym is.number_is ∙ eqb-true p.number h' both.1)))
    (λ (no : has_shape w' h' p ≡ false). no)
    (bool_cases (has_shape w' h' p))

pub count_shape : (w h : ℕ) (ps : List Protection) → AllByRecursion (IsOf w h) ps → count_by (has_shape w h) ps ≡ length ps
count_shape w h [] all = refl
count_shape w h (p ∷ ps) all =
    let here = ap one_if (shape_here w h p all.0) in
    let rest = count_shape w h ps all.1 in
    let both = count_cons (has_shape w h) p ps in
    omega (arith, here, rest, both)

count_other : (w h w' h' : ℕ) (ps : List Protection) → AllByRecursion (IsOf w h) ps → (w ≡ w' → h ≡ h' → ⊥) → count_by (has_shape w' h') ps ≡ 0
count_other w h w' h' [] all other = refl
count_other w h w' h' (p ∷ ps) all other =
    let here = ap one_if (shape_other w h w' h' p all.0 other) in
    let rest = count_other w h w' h' ps all.1 other in
    let both = count_cons (has_shape w' h') p ps in
    omega (arith, here, rest, both)

module _ (w h : ℕ) (wide : 1 ≤ w) (most : w ≤ 20) (high : 1 ≤ h) (highest : h ≤ 20) where
  abbrev place : ℕ
  place = (w - 1) * 20 + (h - 1)

  width : place / 20 + 1 ≡ w
  width = omega (arith, wide, high, highest)

  height : place % 20 + 1 ≡ h
  height = omega (arith, wide, high, highest)

  only_place : (j : ℕ) → w ≡ j / 20 + 1 → h ≡ j % 20 + 1 → j ≡ place
  only_place j over under = omega (arith, over, under)

  commonest_shape : (p : Protection) (ps : List Protection) → AllByRecursion (IsOf w h) (p ∷ ps) → commonest (shape_count (p ∷ ps)) 400 ≡ place
  commonest_shape p ps all =
      let all_here : shape_count (p ∷ ps) place ≡ suc (length ps) =
      ap (λ k. count_by (has_shape k (place % 20 + 1)) (p ∷ ps)) width ∙ ap (λ k. count_by (has_shape w k) (p ∷ ps)) height ∙ count_shape w h (p ∷ ps) all in
      commonest_is (shape_count (p ∷ ps)) place 400 (omega (arith, most, highest)) (omega (arith, all_here))
      (λ j other. count_other w h (j / 20 + 1) (j % 20 + 1) (p ∷ ps) all (λ over under. other (only_place j over under)))

  pub record Shows (m : Matrix) : Type 0 where
    pub columns : m.columns ≡ w
    pub rows : m.rows ≡ h
    pub other : m.other ≡ 0

  pub matrix_shows : (columns rows : List Protection) → 0 < length columns → AllByRecursion (IsOf w h) columns → AllByRecursion (IsOf 1 w) rows → Shows (matrix_of columns rows)
  matrix_shows [] rows some all straight = absurd (omega (arith, some))
  matrix_shows (p ∷ ps) rows some all straight =
      let common = commonest_shape p ps all in
      let over : commonest (shape_count (p ∷ ps)) 400 / 20 + 1 ≡ w = ap (λ c. c / 20 + 1) common ∙ width in
      let under : commonest (shape_count (p ∷ ps)) 400 % 20 + 1 ≡ h = ap (λ c. c % 20 + 1) common ∙ height in
      let same : matrix_of (p ∷ ps) rows ≡ matrix_by (p ∷ ps) rows w h =
      ap (λ k. matrix_by (p ∷ ps) rows k (commonest (shape_count (p ∷ ps)) 400 % 20 + 1)) over ∙ ap (λ k. matrix_by (p ∷ ps) rows w k) under in
      let columns_same = count_shape w h (p ∷ ps) all in
      let rows_same = count_shape 1 w rows straight in
      let none : (matrix_by (p ∷ ps) rows w h).other ≡ 0 = omega (arith, columns_same, rows_same) in
      record {
        columns = ap (λ (m : Matrix). m.columns) same;
        rows = ap (λ (m : Matrix). m.rows) same;
        other = ap (λ (m : Matrix). m.other) same ∙ none;
      }
