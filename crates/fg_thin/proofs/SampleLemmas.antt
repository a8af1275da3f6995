-- How many records a sample has, and that its losses may be asked for.
use Rattle.std.proofs.Common.{◌≡◌, ◌⊎◌, ℕ, zero, suc, ◌+◌, ◌*◌, ◌-◌, ◌/◌, ◌%◌, ◌<◌, ◌≤◌, Bool, true, false, if◌then◌else◌, List, length, refl, ap, ◌∙◌, inl, inr, ⊎_elim, arith}
use Rattle.std.proofs.lemmas.Bool.{cases_lt}
use Rattle.fg_shape.specs.declared.layouts.Layout.{Layout}
use Rattle.fg_shape.specs.Layout.{column_base, first_row, row_base, ColumnEnds, RowEnds}
use Rattle.fg_shape.specs.Laws.{NumbersItsSlots}
use Rattle.fg_encode.specs.Ends.{columns_before, columns_ending, rows_before, rows_ending}
use Rattle.fg_encode.specs.Laws.{ColumnsAreTheLayouts, RowsAreTheLayouts}
use Rattle.fg_thin.specs.Drawn.{sample_layout}
use Rattle.fg_thin.specs.Thinned.{media_number}
use Rattle.fg_thin.proofs.FewLemmas.{column_end, row_end, length_more}

-- A layout of the sample's size.
record IsSample (layout : Layout) : Type 0 where
  pub columns : layout.l ≡ 10
  pub height : layout.d ≡ 10
  pub rows : layout.rows ≡ true
  pub block : layout.staggered ≡ false

no_stagger : (layout : Layout) (c : ℕ) → layout.staggered ≡ false → first_row layout c ≡ 0
no_stagger layout c block = ap (λ (b : Bool). if b then c % layout.d else 0) block

column_base_is : (layout : Layout) → IsSample layout → (m c : ℕ) → column_base layout m c ≡ 100 * m + c
column_base_is layout sample m c =
    let tens : m * 10 * 10 + c + 0 * 10 ≡ 100 * m + c = omega arith in
    ap (λ (r : ℕ). m * layout.l * layout.d + c + r * layout.l) (no_stagger layout c sample.block)
    ∙ ap (λ (l : ℕ). m * l * layout.d + c + 0 * l) sample.columns
    ∙ ap (λ (d : ℕ). m * 10 * d + c + 0 * 10) sample.height
    ∙ tens

row_base_is : (layout : Layout) → IsSample layout → (m r : ℕ) → row_base layout m r ≡ 100 * m + 10 * r
row_base_is layout sample m r =
    let tens : m * 10 * 10 + r * 10 ≡ 100 * m + 10 * r = omega arith in
    ap (λ (l : ℕ). m * l * layout.d + r * l) sample.columns ∙ ap (λ (d : ℕ). m * 10 * d + r * 10) sample.height ∙ tens

column_span : (layout : Layout) → IsSample layout → (layout.d - 1) * layout.l ≡ 90
column_span layout sample =
    ap (λ (l : ℕ). (layout.d - 1) * l) sample.columns ∙ ap (λ (d : ℕ). (d - 1) * 10) sample.height

-- A column ends at each slot of the last row, and none elsewhere.
column_there : NumbersItsSlots → (layout : Layout) → IsSample layout → (slot : ℕ) → 90 ≤ slot % 100 → ColumnEnds layout slot (slot - 90)
column_there numbered layout sample slot last =
    let wide = sample.columns in
    let tall = sample.height in
    let begins = column_base_is layout sample (slot / 100) (slot % 100 - 90) in
    let span = column_span layout sample in
    let below : layout.d - 1 < layout.d = omega arith in
    let first : slot - 90 ≡ column_base layout (slot / 100) (slot % 100 - 90) = omega arith in
    let column : slot % 100 - 90 < layout.l = omega arith in
    let end = numbered (slot - 90) layout.l layout.d (layout.d - 1) below in
    let sum : slot - 90 + (layout.d - 1) * layout.l ≡ slot = omega arith in
    record { matrix = slot / 100; column = slot % 100 - 90; is_column = column; first = first; last = end ∙ sum }

column_only : NumbersItsSlots → (layout : Layout) → IsSample layout → (slot base : ℕ) → ColumnEnds layout slot base → 90 ≤ slot % 100
column_only numbered layout sample slot base e =
    let begins = column_base_is layout sample e.matrix e.column in
    let span = column_span layout sample in
    let end = column_end numbered layout slot base e in
    let column = e.is_column in
    let wide = sample.columns in
    let first = e.first in
    omega arith

columns_there : NumbersItsSlots → ColumnsAreTheLayouts → (layout : Layout) → IsSample layout → (slot : ℕ)
    → ((90 ≤ slot % 100) × (length (columns_ending layout slot) ≡ 1)) ⊎ ((slot % 100 < 90) × (length (columns_ending layout slot) ≡ 0))
columns_there numbered ends layout sample slot =
    ⊎_elim
    (λ (early : slot % 100 < 90).
    inr (early, ap (λ (xs : List ℕ). length xs) ((ends layout slot).1 (λ base e. let late = column_only numbered layout sample slot base e in omega arith))))
    (λ (late : 90 ≤ slot % 100).
    inl (late, ap (λ (xs : List ℕ). length xs) ((ends layout slot).0 (slot - 90) (column_there numbered layout sample slot late))))
    (cases_lt (slot % 100) 90)

-- A row ends at each tenth slot.
row_there : NumbersItsSlots → (layout : Layout) → IsSample layout → (slot : ℕ) → slot % 10 ≡ 9 → RowEnds layout slot (slot - 9)
row_there numbered layout sample slot last =
    let wide = sample.columns in
    let tall = sample.height in
    let begins = row_base_is layout sample (slot / 100) (slot % 100 / 10) in
    let below : layout.l - 1 < layout.l = omega arith in
    let first : slot - 9 ≡ row_base layout (slot / 100) (slot % 100 / 10) = omega arith in
    let row : slot % 100 / 10 < layout.d = omega arith in
    let end = numbered (slot - 9) 1 layout.l (layout.l - 1) below in
    let sum : slot - 9 + (layout.l - 1) * 1 ≡ slot = omega arith in
    record { sent = sample.rows; matrix = slot / 100; row = slot % 100 / 10; is_row = row; first = first; last = end ∙ sum }

row_only : NumbersItsSlots → (layout : Layout) → IsSample layout → (slot base : ℕ) → RowEnds layout slot base → slot % 10 ≡ 9
row_only numbered layout sample slot base e =
    let begins = row_base_is layout sample e.matrix e.row in
    let end = row_end numbered layout slot base e in
    let wide = sample.columns in
    let first = e.first in
    omega arith

rows_there : NumbersItsSlots → RowsAreTheLayouts → (layout : Layout) → IsSample layout → (slot : ℕ)
    → ((slot % 10 ≡ 9) × (length (rows_ending layout slot) ≡ 1)) ⊎ ((slot % 10 < 9) × (length (rows_ending layout slot) ≡ 0))
rows_there numbered ends layout sample slot =
    ⊎_elim
    (λ (early : slot % 10 < 9).
    inr (early, ap (λ (xs : List ℕ). length xs) ((ends layout slot).1 (λ base e. let late = row_only numbered layout sample slot base e in omega arith))))
    (λ (late : 9 ≤ slot % 10).
    let nine : slot % 10 ≡ 9 = omega arith in
    inl (nine, ap (λ (xs : List ℕ). length xs) ((ends layout slot).0 (slot - 9) (row_there numbered layout sample slot nine))))
    (cases_lt (slot % 10) 9)

columns_counted : NumbersItsSlots → ColumnsAreTheLayouts → (layout : Layout) → IsSample layout → (n : ℕ)
    → columns_before layout n ≡ 10 * (n / 100) + (n % 100 - 90)
columns_counted numbered ends layout sample zero = refl
columns_counted numbered ends layout sample (suc n) =
    let more = length_more (columns_ending layout) n in
    let before = columns_counted numbered ends layout sample n in
    ⊎_elim
    (λ (late : (90 ≤ n % 100) × (length (columns_ending layout n) ≡ 1)). let one = late.1 in let last = late.0 in omega arith)
    (λ (early : (n % 100 < 90) × (length (columns_ending layout n) ≡ 0)). let none = early.1 in let first = early.0 in omega arith)
    (columns_there numbered ends layout sample n)

rows_counted : NumbersItsSlots → RowsAreTheLayouts → (layout : Layout) → IsSample layout → (n : ℕ) → rows_before layout n ≡ n / 10
rows_counted numbered ends layout sample zero = refl
rows_counted numbered ends layout sample (suc n) =
    let more = length_more (rows_ending layout) n in
    let before = rows_counted numbered ends layout sample n in
    ⊎_elim
    (λ (late : (n % 10 ≡ 9) × (length (rows_ending layout n) ≡ 1)). let one = late.1 in let last = late.0 in omega arith)
    (λ (early : (n % 10 < 9) × (length (rows_ending layout n) ≡ 0)). let none = early.1 in let first = early.0 in omega arith)
    (rows_there numbered ends layout sample n)

is_sample : IsSample sample_layout
is_sample = record { columns = refl; height = refl; rows = refl; block = refl }

pub sample_number : NumbersItsSlots → ColumnsAreTheLayouts → RowsAreTheLayouts → (n : ℕ)
    → media_number sample_layout n ≡ n + (10 * (n / 100) + (n % 100 - 90)) + n / 10
sample_number numbered columns rows n =
    ap (λ (c : ℕ). n + c + rows_before sample_layout n) (columns_counted numbered columns sample_layout is_sample n)
    ∙ ap (λ (r : ℕ). n + (10 * (n / 100) + (n % 100 - 90)) + r) (rows_counted numbered rows sample_layout is_sample n)
