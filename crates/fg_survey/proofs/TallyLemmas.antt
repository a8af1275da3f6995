-- Counts of parity by its shape.
use Rattle.std.proofs.Common.{◌≡◌, ◌≢◌, ⊎_elim, ℕ, suc, zero, ◌+◌, ◌-◌, ◌*◌, ◌/◌, ◌%◌, ◌<◌, ◌≤◌, max, Bool, true, false, ◌&&◌, cond, eqb, ltb, List, [], ◌∷◌, length, get_or, set, replicate, refl, sym, ap, ◌∙◌, subst, arith, add-one, zero-add}
use Rattle.std.specs.List.{count_by}
use Rattle.std.proofs.lemmas.Bool.{cases_eq, false_from_ne_true, ne_eqb}
use Rattle.std.proofs.lemmas.Bool.Decides.{eqb_tells}
use Rattle.std.proofs.lemmas.List.{get_or-replicate, get_or-set_same, get_or-set_other, length-replicate, length-set}
use Rattle.std.proofs.lemmas.List.Sums.{count_by-le-length, sum_by-cons}
use Rattle.fg_survey.specs.declared.tally.Matrix.{Matrix}
use Rattle.fg_survey.specs.declared.tally.Tally.{Tally}
use Rattle.fg_survey.specs.Matrix.{Protection, commonest, has_number, has_shape, matrix_of, number_count, shape_count, straight_count}
use Rattle.fg_survey.specs.Tallies.{AreCounts, IsTally}

eq_yes : (a b : ℕ) → a ≡ b → eqb a b ≡ true
eq_yes a b same = ⊎_elim (λ (yes : (eqb a b ≡ true) × (a ≡ b)). yes.0) (λ (not_so : (eqb a b ≡ false) × (a ≢ b)). absurd (not_so.1 same)) (eqb_tells a b)

eq_is : (a b : ℕ) → eqb a b ≡ true → a ≡ b
eq_is a b h = ⊎_elim (λ (yes : (eqb a b ≡ true) × (a ≡ b)). yes.1) (λ (not_so : (eqb a b ≡ false) × (a ≢ b)). absurd cc) (eqb_tells a b)

both : (a b : Bool) → (a && b) ≡ true → (a ≡ true) × (b ≡ true)
both true true h = (refl, refl)
both true false h = absurd cc
both false b h = absurd cc

-- One more at a place

pub counts_more : (counts : List ℕ) (n i by : ℕ) (f g : ℕ → ℕ) → AreCounts counts n f → i < n → ((j : ℕ) → j < n → g j ≡ cond (eqb j i) by 0 + f j)
    → AreCounts (set counts i (get_or counts i 0 + by)) n g
counts_more counts n i by f g h within step = record {
  all = length-set counts i (get_or counts i 0 + by) ∙ h.all;
  each = λ j inside. ⊎_elim
      (λ (same : j ≡ i).
      let here = ap (λ k. get_or (set counts i (get_or counts i 0 + by)) k 0) same ∙ get_or-set_same counts i (get_or counts i 0 + by) 0 (omega (arith, within, h.all)) in
      let was = h.each i within in
      let was_j = ap f same in
      let one = step j inside ∙ ap (λ b. cond {A = ℕ} b by 0 + f j) (eq_yes j i same) in
      omega (arith, here, was, was_j, one))
      (λ (other : j ≢ i).
      let stays = get_or-set_other counts i j (get_or counts i 0 + by) 0 other in
      let was = h.each j inside in
      let none = step j inside ∙ ap (λ b. cond {A = ℕ} b by 0 + f j) (ne_eqb j i other) in
      omega (arith, stays, was, none))
      (cases_eq j i);
}

shape_here : (o n j : ℕ) → 1 ≤ o → 1 ≤ n → n ≤ 20 → (eqb o (j / 20 + 1) && eqb n (j % 20 + 1)) ≡ eqb j ((o - 1) * 20 + (n - 1))
shape_here o n j some one most = ⊎_elim
    (λ (yes : (eqb j ((o - 1) * 20 + (n - 1)) ≡ true) × (j ≡ (o - 1) * 20 + (n - 1))).
    let is = yes.1 in
    ap (λ b. b && eqb n (j % 20 + 1)) (eq_yes o (j / 20 + 1) (omega (arith, is, some, one, most))) ∙ eq_yes n (j % 20 + 1) (omega (arith, is, some, one, most)) ∙ sym yes.0)
    (λ (not_so : (eqb j ((o - 1) * 20 + (n - 1)) ≡ false) × (j ≢ (o - 1) * 20 + (n - 1))).
    false_from_ne_true (eqb o (j / 20 + 1) && eqb n (j % 20 + 1)) (λ h.
    let parts = both (eqb o (j / 20 + 1)) (eqb n (j % 20 + 1)) h in
    let first = eq_is o (j / 20 + 1) parts.0 in
    let second = eq_is n (j % 20 + 1) parts.1 in
    not_so.1 (omega (arith, first, second))) ∙ sym not_so.0)
    (eqb_tells j ((o - 1) * 20 + (n - 1)))

number_here : (n j : ℕ) → 1 ≤ n → eqb n (j + 1) ≡ eqb j (n - 1)
number_here n j one = ⊎_elim
    (λ (yes : (eqb j (n - 1) ≡ true) × (j ≡ n - 1)). let is = yes.1 in eq_yes n (j + 1) (omega (arith, is, one)) ∙ sym yes.0)
    (λ (not_so : (eqb j (n - 1) ≡ false) × (j ≢ n - 1)). ne_eqb n (j + 1) (λ same. not_so.1 (omega (arith, same))) ∙ sym not_so.0)
    (eqb_tells j (n - 1))

pub shapes_more : (counts : List ℕ) (ps : List Protection) (p : Protection) → 1 ≤ p.offset → p.offset ≤ 20 → 1 ≤ p.number → p.number ≤ 20 → AreCounts counts 400 (shape_count ps)
    → AreCounts (set counts ((p.offset - 1) * 20 + (p.number - 1)) (get_or counts ((p.offset - 1) * 20 + (p.number - 1)) 0 + 1)) 400 (shape_count (p ∷ ps))
shapes_more counts ps p some most one few h = counts_more counts 400 ((p.offset - 1) * 20 + (p.number - 1)) 1 (shape_count ps) (shape_count (p ∷ ps)) h (omega (arith, some, most, one, few))
    (λ j inside. sum_by-cons (λ (q : Protection). cond (has_shape (j / 20 + 1) (j % 20 + 1) q) 1 0) p ps
    ∙ ap (λ b. cond {A = ℕ} b 1 0 + shape_count ps j) (shape_here p.offset p.number j some one few))

pub numbers_more : (counts : List ℕ) (ps : List Protection) (p : Protection) → 1 ≤ p.number → p.number ≤ 20 → AreCounts counts 20 (number_count ps)
    → AreCounts (set counts (p.number - 1) (get_or counts (p.number - 1) 0 + 1)) 20 (number_count (p ∷ ps))
numbers_more counts ps p one few h = counts_more counts 20 (p.number - 1) 1 (number_count ps) (number_count (p ∷ ps)) h (omega (arith, one, few))
    (λ j inside. sum_by-cons (λ (q : Protection). cond (has_number (j + 1) q) 1 0) p ps ∙ ap (λ b. cond {A = ℕ} b 1 0 + number_count ps j) (number_here p.number j one))

split_test : (a b : Bool) → cond {A = ℕ} (a && b) 1 0 ≡ cond b (cond {A = ℕ} a 1 0) 0
split_test true true = refl
split_test true false = refl
split_test false true = refl
split_test false false = refl

pub straight_more : (counts : List ℕ) (ps : List Protection) (p : Protection) → 1 ≤ p.number → p.number ≤ 20 → AreCounts counts 20 (straight_count ps)
    → AreCounts (set counts (p.number - 1) (get_or counts (p.number - 1) 0 + cond (eqb p.offset 1) 1 0)) 20 (straight_count (p ∷ ps))
straight_more counts ps p one few h = counts_more counts 20 (p.number - 1) (cond (eqb p.offset 1) 1 0) (straight_count ps) (straight_count (p ∷ ps)) h (omega (arith, one, few))
    (λ j inside. sum_by-cons (λ (q : Protection). cond (has_shape 1 (j + 1) q) 1 0) p ps
    ∙ ap (λ n. n + straight_count ps j) (split_test (eqb p.offset 1) (eqb p.number (j + 1)) ∙ ap (λ b. cond b (cond {A = ℕ} (eqb p.offset 1) 1 0) 0) (number_here p.number j one)))

-- None

no_counts : (n : ℕ) (counts : List ℕ) (f : ℕ → ℕ) → counts ≡ replicate n 0 → ((j : ℕ) → f j ≡ 0) → AreCounts counts n f
no_counts n counts f is none = record {
  all = ap (λ (t : List ℕ). length t) is ∙ length-replicate n 0;
  each = λ j inside. ap (λ (t : List ℕ). get_or t j 0) is ∙ get_or-replicate n j 0 0 inside ∙ sym (none j);
}

pub no_tally : (tally : Tally) → tally.shapes.items ≡ replicate 400 0 → tally.straight.items ≡ replicate 20 0 → tally.numbers.items ≡ replicate 20 0
    → tally.columns ≡ 0 → tally.rows ≡ 0 → tally.ahead ≡ 0 → IsTally tally [] []
no_tally tally shapes straight numbers columns rows ahead = record {
  shapes = no_counts 400 tally.shapes.items (shape_count []) shapes (λ j. refl);
  straight = no_counts 20 tally.straight.items (straight_count []) straight (λ j. refl);
  numbers = no_counts 20 tally.numbers.items (number_count []) numbers (λ j. refl);
  columns_are = columns;
  rows_are = rows;
  ahead = ahead;
}

-- One of a column's, and of a row's

pub column_more : (before after : Tally) (columns rows : List Protection) (p : Protection) → 1 ≤ p.offset → p.offset ≤ 20 → 1 ≤ p.number → p.number ≤ 20
    → after.shapes.items ≡ set before.shapes.items ((p.offset - 1) * 20 + (p.number - 1)) (get_or before.shapes.items ((p.offset - 1) * 20 + (p.number - 1)) 0 + 1)
    → after.straight.items ≡ before.straight.items → after.numbers.items ≡ before.numbers.items → after.columns ≡ before.columns + 1 → after.rows ≡ before.rows → after.ahead ≡ max p.ahead before.ahead
    → IsTally before columns rows → IsTally after (p ∷ columns) rows
column_more before after columns rows p some most one few shapes straight numbers counted same ahead h = record {
  shapes = subst (λ (t : List ℕ). AreCounts t 400 (shape_count (p ∷ columns))) (sym shapes) (shapes_more before.shapes.items columns p some most one few h.shapes);
  straight = subst (λ (t : List ℕ). AreCounts t 20 (straight_count rows)) (sym straight) h.straight;
  numbers = subst (λ (t : List ℕ). AreCounts t 20 (number_count rows)) (sym numbers) h.numbers;
  columns_are = let was = h.columns_are in omega (arith, counted, was);
  rows_are = same ∙ h.rows_are;
  ahead = let was = h.ahead in omega (arith, ahead, was);
}

pub row_more : (before after : Tally) (columns rows : List Protection) (p : Protection) → 1 ≤ p.number → p.number ≤ 20
    → after.numbers.items ≡ set before.numbers.items (p.number - 1) (get_or before.numbers.items (p.number - 1) 0 + 1)
    → after.straight.items ≡ set before.straight.items (p.number - 1) (get_or before.straight.items (p.number - 1) 0 + cond (eqb p.offset 1) 1 0)
    → after.shapes.items ≡ before.shapes.items → after.columns ≡ before.columns → after.rows ≡ before.rows + 1 → after.ahead ≡ max p.ahead before.ahead
    → IsTally before columns rows → IsTally after columns (p ∷ rows)
row_more before after columns rows p one few numbers straight shapes same counted ahead h = record {
  shapes = subst (λ (t : List ℕ). AreCounts t 400 (shape_count columns)) (sym shapes) h.shapes;
  straight = subst (λ (t : List ℕ). AreCounts t 20 (straight_count (p ∷ rows))) (sym straight) (straight_more before.straight.items rows p one few h.straight);
  numbers = subst (λ (t : List ℕ). AreCounts t 20 (number_count (p ∷ rows))) (sym numbers) (numbers_more before.numbers.items rows p one few h.numbers);
  columns_are = same ∙ h.columns_are;
  rows_are = let was = h.rows_are in omega (arith, counted, was);
  ahead = let was = h.ahead in omega (arith, ahead, was);
}

-- The counts are few

pub few_shapes : (counts : List ℕ) (ps : List Protection) (place : ℕ) → AreCounts counts 400 (shape_count ps) → place < 400 → get_or counts place 0 ≤ length ps
few_shapes counts ps place h within = let is = h.each place within in let least = count_by-le-length (has_shape (place / 20 + 1) (place % 20 + 1)) ps in omega (arith, is, least)

pub few_numbers : (counts : List ℕ) (ps : List Protection) (place : ℕ) → AreCounts counts 20 (number_count ps) → place < 20 → get_or counts place 0 ≤ length ps
few_numbers counts ps place h within = let is = h.each place within in let least = count_by-le-length (has_number (place + 1)) ps in omega (arith, is, least)

pub few_straight : (counts : List ℕ) (ps : List Protection) (place : ℕ) → AreCounts counts 20 (straight_count ps) → place < 20 → get_or counts place 0 ≤ length ps
few_straight counts ps place h within = let is = h.each place within in let least = count_by-le-length (has_shape 1 (place + 1)) ps in omega (arith, is, least)

-- The commonest

pub commonest_next : (f : ℕ → ℕ) (n : ℕ) → commonest f (n + 1) ≡ cond (ltb (f (commonest f n)) (f n)) n (commonest f n)
unfolding commonest
commonest_next f n = ap (λ k. commonest f k) (add-one n)

pub commonest_first : (f : ℕ → ℕ) → commonest f 0 ≡ 0
unfolding commonest
commonest_first f = refl

pub within_by : (b : Bool) (n m : ℕ) → m ≤ n → cond b n m ≤ n
within_by true n m h = omega arith
within_by false n m h = h

pub commonest_within : (f : ℕ → ℕ) (n : ℕ) → commonest f n ≤ n
commonest_within f zero = let is = commonest_first f in omega (arith, is)
commonest_within f (suc n) =
    let next : commonest f (suc n) ≡ cond (ltb (f (commonest f n)) (f n)) n (commonest f n) = ap (λ k. commonest f k) (sym (add-one n)) ∙ commonest_next f n in
    let rest = commonest_within f n in
    let here = within_by (ltb (f (commonest f n)) (f n)) n (commonest f n) rest in
    omega (arith, next, here)

pub commonest_same : (f g : ℕ → ℕ) (n : ℕ) → ((j : ℕ) → j < n → f j ≡ g j) → commonest f n ≡ commonest g n
commonest_same f g zero same = commonest_first f ∙ sym (commonest_first g)
commonest_same f g (suc n) same =
    let rest : commonest f n ≡ commonest g n = commonest_same f g n (λ j inside. same j (omega (arith, inside))) in
    let within = commonest_within f n in
    let best : f (commonest f n) ≡ g (commonest g n) = same (commonest f n) (omega (arith, within)) ∙ ap g rest in
    let here : f n ≡ g n = same n (omega arith) in
    ap (λ k. commonest f k) (sym (add-one n)) ∙ commonest_next f n
    ∙ ap (λ k. cond (ltb k (f n)) n (commonest f n)) best ∙ ap (λ k. cond (ltb (g (commonest g n)) k) n (commonest f n)) here ∙ ap (λ k. cond (ltb (g (commonest g n)) (g n)) n k) rest
    ∙ sym (ap (λ k. commonest g k) (sym (add-one n)) ∙ commonest_next g n)

-- The matrix

same_matrix : (a b : Matrix) → a.columns ≡ b.columns → a.rows ≡ b.rows → a.same ≡ b.same → a.other ≡ b.other → a.lag ≡ b.lag → a ≡ b
same_matrix a b columns rows same other lag =
    ap (λ n. record a { columns = n }) columns
    ∙ ap (λ n. record a { columns = b.columns; rows = n }) rows
    ∙ ap (λ n. record a { columns = b.columns; rows = b.rows; same = n }) same
    ∙ ap (λ n. record b { other = n; lag = a.lag }) other
    ∙ ap (λ n. record b { lag = n }) lag

best_number : (counts : List ℕ) (ps : List Protection) → AreCounts counts 20 (number_count ps) → commonest (λ place. get_or counts place 0) (length counts) ≡ commonest (number_count ps) 20
best_number counts ps h = ap (λ n. commonest (λ place. get_or counts place 0) n) h.all ∙ commonest_same (λ place. get_or counts place 0) (number_count ps) 20 h.each

best_shape : (counts : List ℕ) (ps : List Protection) → AreCounts counts 400 (shape_count ps) → commonest (λ place. get_or counts place 0) (length counts) ≡ commonest (shape_count ps) 400
best_shape counts ps h = ap (λ n. commonest (λ place. get_or counts place 0) n) h.all ∙ commonest_same (λ place. get_or counts place 0) (shape_count ps) 400 h.each

pub rows_matrix : (tally : Tally) (columns rows : List Protection) (place : ℕ) (m : Matrix) → IsTally tally columns rows → tally.columns ≡ 0
    → place ≡ commonest (λ i. get_or tally.numbers.items i 0) (length tally.numbers.items) → place < length tally.numbers.items
    → m.columns ≡ place + 1 → m.rows ≡ 0 → m.same ≡ get_or tally.straight.items place 0 → m.other ≡ tally.columns + tally.rows - m.same → m.lag ≡ tally.ahead → m ≡ matrix_of columns rows
rows_matrix tally [] rows place m h none is within columns_is rows_is same other lag =
    let best : place ≡ commonest (number_count rows) 20 = is ∙ best_number tally.numbers.items rows h.numbers in
    let width : m.columns ≡ commonest (number_count rows) 20 + 1 = columns_is ∙ ap (λ n. n + 1) best in
    let own : m.same ≡ count_by (has_shape 1 (place + 1)) rows = same ∙ h.straight.each place (omega (arith, within, h.numbers.all)) in
    let both : m.same ≡ 0 + count_by (has_shape 1 (commonest (number_count rows) 20 + 1)) rows = own ∙ ap (λ n. count_by (has_shape 1 (n + 1)) rows) best ∙ sym (zero-add (count_by (has_shape 1 (commonest (number_count rows) 20 + 1)) rows)) in
    same_matrix m (matrix_of [] rows) width rows_is both
    (other ∙ ap (λ n. n + tally.rows - m.same) h.columns_are ∙ ap (λ n. 0 + n - m.same) h.rows_are ∙ ap (λ n. 0 + length rows - n) both)
    (lag ∙ h.ahead)
rows_matrix tally (p ∷ ps) rows place m h none is within columns_is rows_is same other lag = let some = h.columns_are in absurd (omega (arith, none, some))

pub columns_matrix : (tally : Tally) (columns rows : List Protection) (place : ℕ) (m : Matrix) → IsTally tally columns rows → tally.columns ≢ 0
    → place ≡ commonest (λ i. get_or tally.shapes.items i 0) (length tally.shapes.items) → place < length tally.shapes.items
    → m.columns ≡ place / 20 + 1 → m.rows ≡ place % 20 + 1 → m.same ≡ get_or tally.shapes.items place 0 + get_or tally.straight.items (place / 20) 0
    → m.other ≡ tally.columns + tally.rows - m.same → m.lag ≡ tally.ahead → m ≡ matrix_of columns rows
columns_matrix tally [] rows place m h some is within columns_is rows_is same other lag = absurd (some h.columns_are)
columns_matrix tally (p ∷ ps) rows place m h some is within columns_is rows_is same other lag =
    let cs : List Protection = p ∷ ps in
    let best : place ≡ commonest (shape_count cs) 400 = is ∙ best_shape tally.shapes.items cs h.shapes in
    let k = commonest (shape_count cs) 400 in
    let first : get_or tally.shapes.items place 0 ≡ count_by (has_shape (place / 20 + 1) (place % 20 + 1)) cs = h.shapes.each place (omega (arith, within, h.shapes.all)) in
    let second : get_or tally.straight.items (place / 20) 0 ≡ count_by (has_shape 1 (place / 20 + 1)) rows = h.straight.each (place / 20) (omega (arith, within, h.shapes.all)) in
    let sum : m.same ≡ count_by (has_shape (place / 20 + 1) (place % 20 + 1)) cs + count_by (has_shape 1 (place / 20 + 1)) rows =
    same ∙ ap (λ n. n + get_or tally.straight.items (place / 20) 0) first ∙ ap (λ n. count_by (has_shape (place / 20 + 1) (place % 20 + 1)) cs + n) second in
    let both : m.same ≡ count_by (has_shape (k / 20 + 1) (k % 20 + 1)) cs + count_by (has_shape 1 (k / 20 + 1)) rows =
    sum ∙ ap (λ n. count_by (has_shape (n / 20 + 1) (n % 20 + 1)) cs + count_by (has_shape 1 (n / 20 + 1)) rows) best in
    same_matrix m (matrix_of cs rows) (columns_is ∙ ap (λ n. n / 20 + 1) best) (rows_is ∙ ap (λ n. n % 20 + 1) best) both
    (other ∙ ap (λ n. n + tally.rows - m.same) h.columns_are ∙ ap (λ n. length cs + n - m.same) h.rows_are ∙ ap (λ n. length cs + length rows - n) both)
    (lag ∙ h.ahead)

pub one_at_most : (b : Bool) → cond {A = ℕ} b 1 0 ≤ 1
one_at_most true = omega arith
one_at_most false = omega arith
