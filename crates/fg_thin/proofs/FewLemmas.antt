-- Losses are few: near each slot is one where no column and no row ends, so that two media records have successive numbers.
use Rattle.std.proofs.Common.{◌≡◌, ◌≢◌, ◌⊎◌, ℕ, zero, suc, ◌+◌, ◌*◌, ◌-◌, ◌/◌, ◌%◌, ◌<◌, ◌≤◌, Bool, true, false, cond, ltb, eqb, ◌&&◌, ◌||◌, List, [], ◌∷◌, length, map, All, get_or, refl, sym, ap, ◌∙◌, subst, inl, inr, ⊎_elim, arith, add-one, add-zero, length-append, add-mul, eqb-true, eq-eqb, ne_eqb, lt-ltb, le-ltb, ltb-true}
use Rattle.std.specs.List.{flat_map, list_any, range_with_len}
use Rattle.std.proofs.lemmas.Bool.{cases_lt}
use Rattle.std.proofs.lemmas.List.{length-map}
use Rattle.std.proofs.lemmas.List.Folds.{list_any_none}
use Rattle.std.proofs.lemmas.Nat.{div-mul-add, mod-mul-add}
use Rattle.fg_shape.specs.declared.layouts.Layout.{Layout}
use Rattle.fg_shape.specs.declared.encoding.Losses.{Losses}
use Rattle.fg_shape.specs.declared.encoding.Settings.{Settings}
use Rattle.fg_shape.specs.Layout.{first_row, ColumnEnds, RowEnds}
use Rattle.fg_shape.specs.Laws.{NumbersItsSlots}
use Rattle.fg_encode.specs.Encoding.{column_record, encoding, records_at, row_record}
use Rattle.fg_encode.specs.Ends.{columns_ending, rows_ending}
use Rattle.fg_encode.specs.Laws.{ColumnsAreTheLayouts, RowsAreTheLayouts}
use Rattle.fg_encode.proofs.ListLemmas.{bool_cases, flat_more}
use Rattle.fg_shape.specs.Losses.{MayLose}
use Rattle.fg_thin.specs.Thinned.{AreFew, is_lost, media_number}

list_cases : (xs : List ℕ) → (xs ≡ []) ⊎ (xs ≢ [])
list_cases [] = inl refl
list_cases (x ∷ xs) = inr (λ same. cc)

-- Some number below n doesn't pass, or each does.
found_or_all : (p : ℕ → Bool) (n : ℕ) → ((i : ℕ) × (i < n) × (p i ≡ false)) ⊎ ((i : ℕ) → i < n → p i ≡ true)
found_or_all p zero = inr (λ i below. absurd (omega arith))
found_or_all p (suc n) =
    ⊎_elim
    (λ (last : p n ≡ true).
    ⊎_elim
    (λ (found : (i : ℕ) × (i < n) × (p i ≡ false)). let below : found.0 < suc n = omega (arith, found.1) in inl (found.0, below, found.2))
    (λ (all : (i : ℕ) → i < n → p i ≡ true).
    inr (λ i below.
    ⊎_elim
    (λ (early : i < n). all i early)
    (λ (late : n ≤ i). let same : n ≡ i = omega arith in subst (λ (k : ℕ). p k ≡ true) same last)
    (cases_lt i n)))
    (found_or_all p n))
    (λ (last : p n ≡ false). let below : n < suc n = omega arith in inl (n, below, last))
    (bool_cases (p n))

-- How many numbers of a list are below a bound.
abbrev one_if : Bool → ℕ
one_if below = cond below 1 0

abbrev count_below : List ℕ → ℕ → ℕ
count_below [] bound = 0
count_below (d ∷ ds) bound = one_if (ltb d bound) + count_below ds bound

one_below : (d bound : ℕ) → ((d < bound) × (one_if (ltb d bound) ≡ 1)) ⊎ ((bound ≤ d) × (one_if (ltb d bound) ≡ 0))
one_below d bound =
    ⊎_elim
    (λ (less : d < bound). inl (less, ap one_if (lt-ltb d bound less)))
    (λ (more : bound ≤ d). inr (more, ap one_if (le-ltb d bound more)))
    (cases_lt d bound)

one_rises : (d a b : ℕ) → a ≤ b → one_if (ltb d a) ≤ one_if (ltb d b)
one_rises d a b le =
    ⊎_elim
    (λ (less : (d < a) × (one_if (ltb d a) ≡ 1)).
    let early : d < b = omega (arith, less.0) in
    let there = ap one_if (lt-ltb d b early) in
    omega (arith, less.1, there))
    (λ (more : (a ≤ d) × (one_if (ltb d a) ≡ 0)). omega (arith, more.1))
    (one_below d a)

count_rises : (ds : List ℕ) (a b : ℕ) → a ≤ b → count_below ds a ≤ count_below ds b
count_rises [] a b le = omega arith
count_rises (d ∷ ds) a b le = omega (arith, one_rises d a b le, count_rises ds a b le)

count_within : (ds : List ℕ) (b : ℕ) → count_below ds b ≤ length ds
count_within [] b = omega arith
count_within (d ∷ ds) b =
    let rest = count_within ds b in
    ⊎_elim
    (λ (less : (d < b) × (one_if (ltb d b) ≡ 1)). let one = less.1 in omega arith)
    (λ (more : (b ≤ d) × (one_if (ltb d b) ≡ 0)). let none = more.1 in omega arith)
    (one_below d b)

-- A number of the list that is below the bound is counted beside those below it.
count_more : (ds : List ℕ) (x b : ℕ) → x < b → list_any (λ d. eqb d x) ds ≡ true → count_below ds x + 1 ≤ count_below ds b
count_more [] x b less there = cc
count_more (d ∷ ds) x b less there =
    ⊎_elim
    (λ (here : eqb d x ≡ true).
    let same = eqb-true d x here in
    let early : d < b = omega arith in
    let late : x ≤ d = omega arith in
    let one = ap one_if (lt-ltb d b early) in
    let none = ap one_if (le-ltb d x late) in
    let rest = count_rises ds x b (omega arith) in
    omega arith)
    (λ (other : eqb d x ≡ false).
    let behind : list_any (λ e. eqb e x) ds ≡ true = sym (ap (λ (t : Bool). t || list_any (λ e. eqb e x) ds) other) ∙ there in
    let rest = count_more ds x b less behind in
    let head = one_rises d x b (omega arith) in
    omega arith)
    (bool_cases (eqb d x))

-- Where each of n windows, one above another, has a number of the list, the list has n numbers.
windows_fit : (n : ℕ) (edge : ℕ → ℕ) (ds : List ℕ)
    → ((j : ℕ) → j < n → (x : ℕ) × (edge j ≤ x) × (x < edge (j + 1)) × (list_any (λ d. eqb d x) ds ≡ true))
    → n ≤ count_below ds (edge n)
windows_fit zero edge ds each = omega arith
windows_fit (suc n) edge ds each =
    let last = each n (omega arith) in
    let before = windows_fit n edge ds (λ j below. each j (omega arith)) in
    let risen = count_rises ds (edge n) last.0 last.1 in
    let more = count_more ds last.0 (edge (n + 1)) last.2 last.3 in
    subst (λ (k : ℕ). k ≤ count_below ds (edge k)) (add-one n) (omega arith)

-- What comes of ranges.
pub length_more : {X : Type 0} (g : ℕ → List X) (n : ℕ)
    → length (flat_map g (range_with_len 0 (suc n))) ≡ length (flat_map g (range_with_len 0 n)) + length (g n)
length_more {X} g n = ap (λ (l : List X). length l) (flat_more g n) ∙ length-append (flat_map g (range_with_len 0 n)) (g n)

pub number_next : (layout : Layout) (slot : ℕ)
    → media_number layout (suc slot) ≡ media_number layout slot + 1 + length (columns_ending layout slot) + length (rows_ending layout slot)
number_next layout slot =
    let columns = length_more (columns_ending layout) slot in
    let rows = length_more (rows_ending layout) slot in
    omega (arith, columns, rows)

number_rises : (layout : Layout) (slot k : ℕ) → media_number layout slot + k ≤ media_number layout (slot + k)
number_rises layout slot zero = let same = ap (media_number layout) (add-zero slot) in omega arith
number_rises layout slot (suc k) =
    let next = number_next layout (slot + k) in
    let before = number_rises layout slot k in
    let here : suc (slot + k) ≡ slot + suc k = omega arith in
    let same = ap (media_number layout) here in
    omega arith

-- How many records an encoding has.
records_there : (settings : Settings) (payloads : List (List ℕ)) (slot : ℕ)
    → length (records_at settings payloads slot) ≡ 1 + length (columns_ending settings.layout slot) + length (rows_ending settings.layout slot)
records_there settings payloads slot =
    let columns = length-map (columns_ending settings.layout slot) (column_record settings payloads slot) in
    let rows = length-map (rows_ending settings.layout slot) (row_record settings payloads slot) in
    let all = length-append (map (column_record settings payloads slot) (columns_ending settings.layout slot)) (map (row_record settings payloads slot) (rows_ending settings.layout slot)) in
    omega arith

records_before : (settings : Settings) (payloads : List (List ℕ)) (n : ℕ)
    → length (flat_map (records_at settings payloads) (range_with_len 0 n)) ≡ media_number settings.layout n
records_before settings payloads zero = refl
records_before settings payloads (suc n) =
    let more = length_more (records_at settings payloads) n in
    let before = records_before settings payloads n in
    let here = records_there settings payloads n in
    let next = number_next settings.layout n in
    omega arith

pub records_counted : (settings : Settings) (payloads : List (List ℕ)) → length (encoding settings payloads) ≡ media_number settings.layout (length payloads)
records_counted settings payloads = records_before settings payloads (length payloads)

-- A quotient and a rest are the only ones.
same_quotient : (n a b x y : ℕ) → x < n → y < n → a * n + x ≡ b * n + y → (a ≡ b) × (x ≡ y)
same_quotient n a b x y xn yn e = (
  sym (div-mul-add a n x xn) ∙ ap (λ (s : ℕ). s / n) e ∙ div-mul-add b n y yn,
  sym (mod-mul-add a n x xn) ∙ ap (λ (s : ℕ). s % n) e ∙ mod-mul-add b n y yn,
)

-- Where a column and a row end, by their first slots.
pub column_end : NumbersItsSlots → (layout : Layout) (slot base : ℕ) → ColumnEnds layout slot base → base + (layout.d - 1) * layout.l ≡ slot
column_end numbered layout slot base e =
    let tall = layout.accepted.height in
    let below : layout.d - 1 < layout.d = omega (arith, tall) in
    sym (numbered base layout.l layout.d (layout.d - 1) below) ∙ e.last

pub row_end : NumbersItsSlots → (layout : Layout) (slot base : ℕ) → RowEnds layout slot base → base + (layout.l - 1) ≡ slot
row_end numbered layout slot base e =
    let wide = layout.accepted.columns in
    let below : layout.l - 1 < layout.l = omega (arith, wide) in
    let one : (layout.l - 1) * 1 ≡ layout.l - 1 = omega arith in
    ap (λ (k : ℕ). base + k) (sym one) ∙ sym (numbered base 1 layout.l (layout.l - 1) below) ∙ e.last

-- No column ends one row below the end of another.
columns_clash : NumbersItsSlots → (layout : Layout) (slot a b : ℕ) → ColumnEnds layout slot a → ColumnEnds layout (slot + layout.l) b → ⊥
columns_clash numbered layout slot a b x y =
    let l = layout.l in
    let d = layout.d in
    let r = first_row layout x.column in
    let s = first_row layout y.column in
    let height = layout.accepted.height in
    let upper = column_end numbered layout slot a x in
    let lower = column_end numbered layout (slot + l) b y in
    let first = x.first in
    let second = y.first in
    let grow = add-mul (x.matrix * d) r l in
    let grown = add-mul (y.matrix * d) s l in
    let more = add-mul (x.matrix * d + r) 1 l in
    let turned : x.matrix * l * d ≡ x.matrix * d * l = omega arith in
    let turned_too : y.matrix * l * d ≡ y.matrix * d * l = omega arith in
    let line : (y.matrix * d + s) * l + y.column ≡ (x.matrix * d + r + 1) * l + x.column = omega arith in
    let same = same_quotient l (y.matrix * d + s) (x.matrix * d + r + 1) y.column x.column y.is_column x.is_column line in
    let rows : s ≡ r = ap (first_row layout) same.1 in
    let heights = same.0 in
    let turn : y.matrix * d + 0 ≡ x.matrix * d + 1 = omega arith in
    let none : 0 < d = omega arith in
    let one : 1 < d = omega arith in
    let never = (same_quotient d y.matrix x.matrix 0 1 none one turn).1 in
    omega arith

columns_apart : NumbersItsSlots → ColumnsAreTheLayouts → (layout : Layout) (slot : ℕ)
    → (columns_ending layout slot ≡ []) ⊎ (columns_ending layout (slot + layout.l) ≡ [])
columns_apart numbered ends layout slot =
    ⊎_elim
    (λ (none : columns_ending layout (slot + layout.l) ≡ []). inr none)
    (λ (some : columns_ending layout (slot + layout.l) ≢ []).
    inl ((ends layout slot).1 (λ a x. some ((ends layout (slot + layout.l)).1 (λ b y. columns_clash numbered layout slot a b x y)))))
    (list_cases (columns_ending layout (slot + layout.l)))

-- A row ends only where a multiple of its length does.
row_multiple : NumbersItsSlots → (layout : Layout) (slot base : ℕ) (e : RowEnds layout slot base) → slot + 1 ≡ (e.matrix * layout.d + e.row) * layout.l + layout.l
row_multiple numbered layout slot base e =
    let wide = layout.accepted.columns in
    let end = row_end numbered layout slot base e in
    let first = e.first in
    let grown = add-mul (e.matrix * layout.d) e.row layout.l in
    let turned : e.matrix * layout.l * layout.d ≡ e.matrix * layout.d * layout.l = omega arith in
    omega arith

no_row : NumbersItsSlots → RowsAreTheLayouts → (layout : Layout) (slot : ℕ)
    → ((q : ℕ) → layout.rows ≡ true → slot + 1 ≡ q * layout.l + layout.l → ⊥) → rows_ending layout slot ≡ []
no_row numbered ends layout slot never =
    (ends layout slot).1 (λ base e. never (e.matrix * layout.d + e.row) e.sent (row_multiple numbered layout slot base e))

-- Near each slot is one at which no row ends, nor one row below it.
record RowsRest (layout : Layout) (slot : ℕ) : Type 0 where
  pub past : ℕ
  pub near : past ≤ 1
  pub upper : rows_ending layout (slot + past) ≡ []
  pub lower : rows_ending layout (slot + past + layout.l) ≡ []

rows_rest_at : NumbersItsSlots → RowsAreTheLayouts → (layout : Layout) (slot past : ℕ) → past ≤ 1
    → ((q : ℕ) → layout.rows ≡ true → slot + past + 1 ≡ q * layout.l → ⊥) → RowsRest layout slot
rows_rest_at numbered ends layout slot past near never = record {
  past = past;
  near = near;
  upper = no_row numbered ends layout (slot + past) (λ q sent same.
      let grown = add-mul q 1 layout.l in
      never (q + 1) sent (omega arith));
  lower = no_row numbered ends layout (slot + past + layout.l) (λ q sent same. never q sent (omega arith));
}

rows_rest : NumbersItsSlots → RowsAreTheLayouts → (layout : Layout) (slot : ℕ) → RowsRest layout slot
rows_rest numbered ends layout slot =
    let l = layout.l in
    let wide = layout.accepted.columns in
    let zero_below : 0 < l = omega arith in
    ⊎_elim
    (λ (whole : eqb ((slot + 1) % l) 0 ≡ true).
    let none = eqb-true ((slot + 1) % l) 0 whole in
    rows_rest_at numbered ends layout slot 1 (omega arith) (λ q sent same.
    let four = layout.accepted.rows_need_four sent in
    let one_below_l : 1 < l = omega arith in
    let split : (slot + 1) / l * l + 1 ≡ q * l + 0 = omega arith in
    let never = (same_quotient l ((slot + 1) / l) q 1 0 one_below_l zero_below split).1 in
    omega arith))
    (λ (rest : eqb ((slot + 1) % l) 0 ≡ false).
    rows_rest_at numbered ends layout slot 0 (omega arith) (λ q sent same.
    let plain : slot + 1 ≡ q * l + 0 = omega arith in
    let none : (slot + 1) % l ≡ 0 = ap (λ (s : ℕ). s % l) plain ∙ mod-mul-add q l 0 zero_below in
    let true_is_false = sym (eq-eqb ((slot + 1) % l) 0 none) ∙ rest in
    cc))
    (bool_cases (eqb ((slot + 1) % l) 0))

-- Near each slot is one whose media record's number is one below the next one's.
record Quiet (layout : Layout) (slot : ℕ) : Type 0 where
  pub past : ℕ
  pub near : past ≤ 21
  pub next : media_number layout (slot + past + 1) ≡ media_number layout (slot + past) + 1

quiet_at : (layout : Layout) (slot past : ℕ) → past ≤ 21 → columns_ending layout (slot + past) ≡ [] → rows_ending layout (slot + past) ≡ [] → Quiet layout slot
quiet_at layout slot past near columns rows = record {
  past = past;
  near = near;
  next =
      let more = number_next layout (slot + past) in
      let none = ap (λ (xs : List ℕ). length xs) columns in
      let neither = ap (λ (xs : List ℕ). length xs) rows in
      ap (media_number layout) (add-one (slot + past)) ∙ (let next : media_number layout (suc (slot + past)) ≡ media_number layout (slot + past) + 1 = omega arith in next);
}

quiet_near : NumbersItsSlots → ColumnsAreTheLayouts → RowsAreTheLayouts → (layout : Layout) (slot : ℕ) → Quiet layout slot
quiet_near numbered columns rows layout slot =
    let rest = rows_rest numbered rows layout slot in
    let wide = layout.accepted.columns in
    ⊎_elim
    (λ (upper : columns_ending layout (slot + rest.past) ≡ []).
    quiet_at layout slot rest.past (omega (arith, rest.near)) upper rest.upper)
    (λ (lower : columns_ending layout (slot + rest.past + layout.l) ≡ []).
    let here : slot + rest.past + layout.l ≡ slot + (rest.past + layout.l) = omega arith in
    quiet_at layout slot (rest.past + layout.l) (omega (arith, rest.near))
    (ap (columns_ending layout) (sym here) ∙ lower)
    (ap (rows_ending layout) (sym here) ∙ rest.lower))
    (columns_apart numbered columns layout (slot + rest.past))

-- Why a number is lost.
or_cases : (a b : Bool) → (a || b) ≡ true → (a ≡ true) ⊎ (b ≡ true)
or_cases true b all = inl refl
or_cases false b all = inr all

and_both : (a b : Bool) → (a && b) ≡ true → (a ≡ true) × (b ≡ true)
and_both true b all = (refl, all)
and_both false b all = cc

lost_why : (losses : Losses) (n : ℕ) → is_lost losses n ≡ true
    → (list_any (λ d. eqb d n) losses.drops ≡ true) ⊎ ((0 < losses.every) × (n % losses.every ≡ 0))
lost_why losses n lost =
    ⊎_elim
    (λ (drop : list_any (λ d. eqb d n) losses.drops ≡ true). inl drop)
    (λ (multiple : (ltb 0 losses.every && (ltb 0 n && eqb (n % losses.every) 0)) ≡ true).
    let both = and_both (ltb 0 losses.every) (ltb 0 n && eqb (n % losses.every) 0) multiple in
    let inner = and_both (ltb 0 n) (eqb (n % losses.every) 0) both.1 in
    inr (ltb-true 0 losses.every both.0, eqb-true (n % losses.every) 0 inner.1))
    (or_cases (list_any (λ d. eqb d n) losses.drops) (ltb 0 losses.every && (ltb 0 n && eqb (n % losses.every) 0)) lost)

-- Of two successive numbers that are lost one is a drop.
one_is_a_drop : (losses : Losses) (n : ℕ) → 2 ≤ losses.every → is_lost losses n ≡ true → is_lost losses (n + 1) ≡ true
    → (list_any (λ d. eqb d n) losses.drops ≡ true) ⊎ (list_any (λ d. eqb d (n + 1)) losses.drops ≡ true)
one_is_a_drop losses n two lost next =
    let every = losses.every in
    ⊎_elim
    (λ (drop : list_any (λ d. eqb d n) losses.drops ≡ true). inl drop)
    (λ (multiple : (0 < every) × (n % every ≡ 0)).
    ⊎_elim
    (λ (drop : list_any (λ d. eqb d (n + 1)) losses.drops ≡ true). inr drop)
    (λ (again : (0 < every) × ((n + 1) % every ≡ 0)).
    let zero_below : 0 < every = omega arith in
    let one_below_every : 1 < every = omega arith in
    let none = multiple.1 in
    let neither = again.1 in
    let split : n / every * every + 1 ≡ (n + 1) / every * every + 0 = omega arith in
    let never = (same_quotient every (n / every) ((n + 1) / every) 1 0 one_below_every zero_below split).1 in
    absurd (omega arith))
    (lost_why losses (n + 1) next))
    (lost_why losses n lost)

-- All of so many successive media records are lost only where there are more drops than may be.
all_drops : (layout : Layout) (losses : Losses) (slot : ℕ) → losses.every ≡ 0 → length losses.drops ≤ 24000
    → ((i : ℕ) → i < 32001 → is_lost losses (media_number layout (slot + i)) ≡ true) → ⊥
all_drops layout losses slot none few all =
    let edge : ℕ → ℕ = λ i. media_number layout (slot + i) in
    let fits = windows_fit 32001 edge losses.drops (λ j below.
    let rises = number_rises layout (slot + j) 1 in
    let here : slot + j + 1 ≡ slot + (j + 1) = omega arith in
    let there = ap (media_number layout) here in
    let above : edge j < edge (j + 1) = omega arith in
    let least : edge j ≤ edge j = omega arith in
    let drop : list_any (λ d. eqb d (edge j)) losses.drops ≡ true =
    ⊎_elim
    (λ (is : list_any (λ d. eqb d (edge j)) losses.drops ≡ true). is)
    (λ (multiple : (0 < losses.every) × (edge j % losses.every ≡ 0)). absurd (omega (arith, multiple.0)))
    (lost_why losses (edge j) (all j below)) in
    (edge j, least, above, drop)) in
    let counted = count_within losses.drops (edge 32001) in
    omega arith

-- A drop among thirty successive media records that are all lost.
drop_near : NumbersItsSlots → ColumnsAreTheLayouts → RowsAreTheLayouts → (layout : Layout) (losses : Losses) (slot : ℕ) → 2 ≤ losses.every
    → ((i : ℕ) → i < 30 → is_lost losses (media_number layout (slot + i)) ≡ true)
    → (x : ℕ) × (media_number layout slot ≤ x) × (x < media_number layout (slot + 30)) × (list_any (λ d. eqb d x) losses.drops ≡ true)
drop_near numbered columns rows layout losses slot two all =
    let quiet = quiet_near numbered columns rows layout slot in
    let k = quiet.past in
    let n = media_number layout (slot + k) in
    let near = quiet.near in
    let next = quiet.next in
    let first = number_rises layout slot k in
    let last = number_rises layout (slot + k) (30 - k) in
    let here : slot + k + (30 - k) ≡ slot + 30 = omega arith in
    let there = ap (media_number layout) here in
    let assoc : slot + (k + 1) ≡ slot + k + 1 = omega arith in
    let lost = all k (omega arith) in
    let lost_next = sym (ap (λ (m : ℕ). is_lost losses m) (ap (media_number layout) assoc ∙ next)) ∙ all (k + 1) (omega arith) in
    ⊎_elim
    (λ (drop : list_any (λ d. eqb d n) losses.drops ≡ true).
    let low : media_number layout slot ≤ n = omega arith in
    let high : n < media_number layout (slot + 30) = omega arith in
    (n, low, high, drop))
    (λ (drop : list_any (λ d. eqb d (n + 1)) losses.drops ≡ true).
    let low : media_number layout slot ≤ n + 1 = omega arith in
    let high : n + 1 < media_number layout (slot + 30) = omega arith in
    (n + 1, low, high, drop))
    (one_is_a_drop losses n two lost lost_next)

many_drops : NumbersItsSlots → ColumnsAreTheLayouts → RowsAreTheLayouts → (layout : Layout) (losses : Losses) (slot : ℕ) → 2 ≤ losses.every → length losses.drops ≤ 1000
    → ((i : ℕ) → i < 32001 → is_lost losses (media_number layout (slot + i)) ≡ true) → ⊥
many_drops numbered columns rows layout losses slot two few all =
    let edge : ℕ → ℕ = λ j. media_number layout (slot + 30 * j) in
    let fits = windows_fit 1001 edge losses.drops (λ j below.
    let near = drop_near numbered columns rows layout losses (slot + 30 * j) two (λ i less.
    let here : slot + (30 * j + i) ≡ slot + 30 * j + i = omega arith in
    ap (λ (s : ℕ). is_lost losses (media_number layout s)) (sym here) ∙ all (30 * j + i) (omega arith)) in
    let here : slot + 30 * j + 30 ≡ slot + 30 * (j + 1) = omega arith in
    let there = ap (media_number layout) here in
    let high = near.2 in
    let above : near.0 < edge (j + 1) = omega arith in
    (near.0, near.1, above, near.3)) in
    let counted = count_within losses.drops (edge 1001) in
    omega arith

-- The first record is never lost.
no_zero : (drops : List ℕ) → All (λ number. 1 ≤ number) drops → list_any (λ d. eqb d 0) drops ≡ false
no_zero drops some =
    list_any_none (λ d. eqb d 0) drops (λ k d below. ne_eqb (get_or drops k d) 0 (λ same. let least = some k d below in omega arith))

and_false : (a : Bool) → (a && false) ≡ false
and_false true = refl
and_false false = refl

first_kept : (losses : Losses) → All (λ number. 1 ≤ number) losses.drops → is_lost losses 0 ≡ false
first_kept losses some =
    ap (λ (b : Bool). b || (ltb 0 losses.every && (ltb 0 0 && eqb (0 % losses.every) 0))) (no_zero losses.drops some) ∙ and_false (ltb 0 losses.every)

pub losses_few : NumbersItsSlots → ColumnsAreTheLayouts → RowsAreTheLayouts → (layout : Layout) (losses : Losses) (count : ℕ) → MayLose losses → AreFew layout count (is_lost losses)
losses_few numbered columns rows layout losses count may = record {
  first = first_kept losses may.numbers;
  succession = λ slot within.
      ⊎_elim
      (λ (kept : (i : ℕ) × (i < 32001) × (is_lost losses (media_number layout (slot + i)) ≡ false)).
      let near : kept.0 ≤ 32000 = omega (arith, kept.1) in
      (kept.0, near, kept.2))
      (λ (all : (i : ℕ) → i < 32001 → is_lost losses (media_number layout (slot + i)) ≡ true).
      absurd (⊎_elim
      (λ (plain : (losses.every ≡ 0) × (length losses.drops ≤ 24000)). all_drops layout losses slot plain.0 plain.1 all)
      (λ (each : (2 ≤ losses.every) × (length losses.drops ≤ 1000)). many_drops numbered columns rows layout losses slot each.0 each.1 all)
      may.few))
      (found_or_all (λ i. is_lost losses (media_number layout (slot + i))) 32001);
}
