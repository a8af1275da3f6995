-- The columns and rows that end at a slot, as lists, are those of the layout.
use Rattle.std.proofs.Common.{◌≡◌, ℕ, ◌+◌, ◌-◌, ◌*◌, ◌<◌, ◌≤◌, eqb, Bool, true, false, if◌then◌else◌, Option, Some, None, MatchOption, List, [], ◌∷◌, map, refl, sym, ap, ⊎_elim, ◌∙◌, arith}
use Rattle.std.specs.List.{filter, range_with_len}
use Rattle.std.specs.Option.{option_to_list}
use Rattle.std.proofs.lemmas.Bool.{eqb-true, eq-eqb}
use Rattle.std.proofs.Math.Nat.{mul-le-mul_left}
use Rattle.fg_shape.specs.declared.layouts.Layout.{Layout}
use Rattle.fg_shape.specs.Layout.{column_base, first_row, row_base, ColumnEnds, RowEnds}
use Rattle.fg_shape.specs.Laws.{OneColumnEnds, OneRowEnds}
use Rattle.fg_encode.specs.Ends.{columns_ending, rows_ending, row_bases}
use Rattle.fg_encode.specs.Laws.{ColumnsAreTheLayouts, RowsAreTheLayouts}
use Rattle.fg_shape.proofs.LayoutLemmas.{column_last, row_last}
use Rattle.fg_encode.proofs.PlaceLemmas.{column_ends, row_ends}
use Rattle.fg_encode.proofs.ListLemmas.{bool_cases, filter_none, filter_single, flat_none, flat_single, filter-flat_map, map_filter_range_same, map_flat_same}

grown : (m k : ℕ) → 1 ≤ k → m ≤ m * k
grown m k some = omega (arith, mul-le-mul_left m some)

-- a matrix has no number above its first slot
matrix_below : (layout : Layout) (m rest : ℕ) → m ≤ m * layout.l * layout.d + rest
matrix_below layout m rest =
    omega (arith, grown m layout.l layout.accepted.columns.0, grown (m * layout.l) layout.d (let some : 1 ≤ layout.d = omega (arith, layout.accepted.height) in some))

one_column : OneColumnEnds → (layout : Layout) (slot base : ℕ) (e : ColumnEnds layout slot base) (m c : ℕ) → c < layout.l
    → eqb (column_base layout m c + (layout.d - 1) * layout.l) slot ≡ true → (m ≡ e.matrix) × (c ≡ e.column)
one_column law layout slot base e m c cl passes =
    let there = eqb-true (column_base layout m c + (layout.d - 1) * layout.l) slot passes in
    let same = law layout slot (column_base layout m c) base (column_ends layout slot (column_base layout m c) there (m, c, cl, refl)) e in
    (same.0, same.1)

pub columns_one : OneColumnEnds → (layout : Layout) (slot base : ℕ) → ColumnEnds layout slot base → columns_ending layout slot ≡ base ∷ []
columns_one law layout slot base e =
    let p : ℕ → Bool = λ b. eqb (b + (layout.d - 1) * layout.l) slot in
    let end = column_last layout slot base e in
    let here : p (column_base layout e.matrix e.column) ≡ true = ap p (sym e.first) ∙ eq-eqb (base + (layout.d - 1) * layout.l) slot end in
    let first = e.first in
    let within : e.matrix < slot + 1 = omega (arith, matrix_below layout e.matrix (e.column + first_row layout e.column * layout.l)) in
    filter-flat_map p (λ m. map (column_base layout m) (range_with_len 0 layout.l)) (range_with_len 0 (slot + 1))
    ∙ flat_single (λ m. filter p (map (column_base layout m) (range_with_len 0 layout.l))) (slot + 1) e.matrix (base ∷ []) within
    (filter_single p (column_base layout e.matrix) layout.l e.column e.is_column here (λ j jl t. (one_column law layout slot base e e.matrix j jl t).1)
    ∙ ap (λ (b : ℕ). b ∷ []) (sym e.first))
    (λ m below other. filter_none p (column_base layout m) layout.l (λ j jl t. other (one_column law layout slot base e m j jl t).0))

pub columns_none : (layout : Layout) (slot : ℕ) → ((base : ℕ) → ¬ ColumnEnds layout slot base) → columns_ending layout slot ≡ []
columns_none layout slot none =
    let p : ℕ → Bool = λ b. eqb (b + (layout.d - 1) * layout.l) slot in
    filter-flat_map p (λ m. map (column_base layout m) (range_with_len 0 layout.l)) (range_with_len 0 (slot + 1))
    ∙ flat_none (λ m. filter p (map (column_base layout m) (range_with_len 0 layout.l))) (slot + 1)
    (λ m below. filter_none p (column_base layout m) layout.l (λ c cl t.
    none (column_base layout m c) (column_ends layout slot (column_base layout m c) (eqb-true (column_base layout m c + (layout.d - 1) * layout.l) slot t) (m, c, cl, refl))))

one_row : OneRowEnds → (layout : Layout) (slot base : ℕ) (e : RowEnds layout slot base) (m r : ℕ) → r < layout.d
    → eqb (row_base layout m r + (layout.l - 1)) slot ≡ true → (m ≡ e.matrix) × (r ≡ e.row)
one_row law layout slot base e m r rd passes =
    let there = eqb-true (row_base layout m r + (layout.l - 1)) slot passes in
    let same = law layout slot (row_base layout m r) base (row_ends layout slot m r rd e.sent there) e in
    (same.0, same.1)

pub rows_one : OneRowEnds → (layout : Layout) (slot base : ℕ) → RowEnds layout slot base → rows_ending layout slot ≡ base ∷ []
rows_one law layout slot base e =
    let p : ℕ → Bool = λ b. eqb (b + (layout.l - 1)) slot in
    let end = row_last layout slot base e in
    let here : p (row_base layout e.matrix e.row) ≡ true = ap p (sym e.first) ∙ eq-eqb (base + (layout.l - 1)) slot end in
    let first = e.first in
    let within : e.matrix < slot + 1 = omega (arith, matrix_below layout e.matrix (e.row * layout.l)) in
    ap (λ (b : Bool). if b then filter p (row_bases layout (slot + 1)) else []) e.sent
    ∙ filter-flat_map p (λ m. map (row_base layout m) (range_with_len 0 layout.d)) (range_with_len 0 (slot + 1))
    ∙ flat_single (λ m. filter p (map (row_base layout m) (range_with_len 0 layout.d))) (slot + 1) e.matrix (base ∷ []) within
    (filter_single p (row_base layout e.matrix) layout.d e.row e.is_row here (λ j jl t. (one_row law layout slot base e e.matrix j jl t).1)
    ∙ ap (λ (b : ℕ). b ∷ []) (sym e.first))
    (λ m below other. filter_none p (row_base layout m) layout.d (λ j jl t. other (one_row law layout slot base e m j jl t).0))

pub rows_none : (layout : Layout) (slot : ℕ) → ((base : ℕ) → ¬ RowEnds layout slot base) → rows_ending layout slot ≡ []
rows_none layout slot none =
    let p : ℕ → Bool = λ b. eqb (b + (layout.l - 1)) slot in
    ⊎_elim
    (λ (sent : layout.rows ≡ true).
    ap (λ (b : Bool). if b then filter p (row_bases layout (slot + 1)) else []) sent
    ∙ filter-flat_map p (λ m. map (row_base layout m) (range_with_len 0 layout.d)) (range_with_len 0 (slot + 1))
    ∙ flat_none (λ m. filter p (map (row_base layout m) (range_with_len 0 layout.d))) (slot + 1)
    (λ m below. filter_none p (row_base layout m) layout.d (λ r rd t.
    none (row_base layout m r) (row_ends layout slot m r rd sent (eqb-true (row_base layout m r + (layout.l - 1)) slot t)))))
    (λ (unsent : layout.rows ≡ false). ap (λ (b : Bool). if b then filter p (row_bases layout (slot + 1)) else []) unsent)
    (bool_cases layout.rows)

-- What the layout's answer lists.
pub columns_listed : ColumnsAreTheLayouts → (layout : Layout) (slot : ℕ) (o : Option ℕ) → MatchOption o ((base : ℕ) → ColumnEnds layout slot base → ⊥) (ColumnEnds layout slot) → columns_ending layout slot ≡ option_to_list o
columns_listed law layout slot None none = (law layout slot).1 none
columns_listed law layout slot (Some base) ends = (law layout slot).0 base ends

pub rows_listed : RowsAreTheLayouts → (layout : Layout) (slot : ℕ) (o : Option ℕ) → MatchOption o ((base : ℕ) → RowEnds layout slot base → ⊥) (RowEnds layout slot) → rows_ending layout slot ≡ option_to_list o
rows_listed law layout slot None none = (law layout slot).1 none
rows_listed law layout slot (Some base) ends = (law layout slot).0 base ends

-- What two functions make of the columns that end at a slot is alike where they are, and so of the rows.
pub columns_same : {X : Type 0} (f g : ℕ → X) (layout : Layout) (slot : ℕ) → ((base : ℕ) → ColumnEnds layout slot base → f base ≡ g base) → map f (columns_ending layout slot) ≡ map g (columns_ending layout slot)
columns_same f g layout slot same =
    let p : ℕ → Bool = λ b. eqb (b + (layout.d - 1) * layout.l) slot in
    let flat = filter-flat_map p (λ m. map (column_base layout m) (range_with_len 0 layout.l)) (range_with_len 0 (slot + 1)) in
    ap (λ (l : List ℕ). map f l) flat
    ∙ map_flat_same f g (λ m. filter p (map (column_base layout m) (range_with_len 0 layout.l))) (range_with_len 0 (slot + 1))
    (λ m. map_filter_range_same f g p (column_base layout m) 0 layout.l (λ c low cl t.
    same (column_base layout m c) (column_ends layout slot (column_base layout m c) (eqb-true (column_base layout m c + (layout.d - 1) * layout.l) slot t) (m, c, (let below : c < layout.l = omega arith in below), refl))))
    ∙ sym (ap (λ (l : List ℕ). map g l) flat)

pub rows_same : {X : Type 0} (f g : ℕ → X) (layout : Layout) (slot : ℕ) → ((base : ℕ) → RowEnds layout slot base → f base ≡ g base) → map f (rows_ending layout slot) ≡ map g (rows_ending layout slot)
rows_same f g layout slot same =
    let p : ℕ → Bool = λ b. eqb (b + (layout.l - 1)) slot in
    let ends : List ℕ = filter p (row_bases layout (slot + 1)) in
    let flat = filter-flat_map p (λ m. map (row_base layout m) (range_with_len 0 layout.d)) (range_with_len 0 (slot + 1)) in
    ⊎_elim
    (λ (sent : layout.rows ≡ true).
    ap (λ (b : Bool). map f (if b then ends else [])) sent
    ∙ ap (λ (l : List ℕ). map f l) flat
    ∙ map_flat_same f g (λ m. filter p (map (row_base layout m) (range_with_len 0 layout.d))) (range_with_len 0 (slot + 1))
    (λ m. map_filter_range_same f g p (row_base layout m) 0 layout.d (λ r low rd t.
    same (row_base layout m r) (row_ends layout slot m r (let below : r < layout.d = omega arith in below) sent (eqb-true (row_base layout m r + (layout.l - 1)) slot t))))
    ∙ sym (ap (λ (l : List ℕ). map g l) flat)
    ∙ ap (λ (b : Bool). map g (if b then ends else [])) (sym sent))
    (λ (unsent : layout.rows ≡ false).
    ap (λ (b : Bool). map f (if b then ends else [])) unsent ∙ ap (λ (b : Bool). map g (if b then ends else [])) (sym unsent))
    (bool_cases layout.rows)
