-- Where columns and rows begin and end, by quotients and rests.
use Rattle.std.proofs.Common.{◌≡◌, ℕ, ◌+◌, ◌-◌, ◌*◌, ◌/◌, ◌%◌, ◌<◌, Bool, true, false, if◌then◌else◌, refl, sym, ap, ◌∙◌, arith}
use Rattle.std.proofs.Math.Nat.{mul-mod_left}
use Rattle.std.proofs.lemmas.Nat.{div-add-mod', mod-mul-add, div-mul-add, mul-add-lt, mod_below, same_from_place}
use Rattle.fg_shape.specs.declared.layouts.Layout.{Layout}
use Rattle.fg_shape.specs.Layout.{column_base, first_row, row_base, ColumnEnds, RowEnds}
use Rattle.fg_shape.proofs.ShapeLemmas.{get_or-slots_of}

some_rows : (layout : Layout) → 0 < layout.d
some_rows layout = omega (arith, layout.accepted.height)

some_columns : (layout : Layout) → 0 < layout.l
some_columns layout = omega (arith, layout.accepted.columns)

row_or_first : (staggered : Bool) (c d : ℕ) → 0 < d → (if staggered then c % d else 0) < d
row_or_first true c d some = mod_below c d some
row_or_first false c d some = some

-- a column begins in a row of its matrix
first_row-below : (layout : Layout) (c : ℕ) → first_row layout c < layout.d
first_row-below layout c = row_or_first layout.staggered c layout.d (some_rows layout)

-- the place in its matrix of row k and column c
place_is : (l d m c k base : ℕ) → c < l → k < d → base ≡ m * l * d + c + k * l → base % (l * d) ≡ k * l + c
place_is l d m c k base cl kd e =
    let below : k * l + c < l * d = mul-add-lt k l c d kd cl in
    let split : base ≡ m * (l * d) + (k * l + c) = omega (arith, e) in
    ap (λ x. x % (l * d)) split ∙ mod-mul-add m (l * d) (k * l + c) below

-- a place in its matrix is a row and a column of it
place_again : (l d base k c : ℕ) → base % (l * d) / l ≡ k → base % (l * d) % l ≡ c → base ≡ base / (l * d) * l * d + c + k * l
place_again l d base k c row column =
    let whole = div-add-mod' base (l * d) in
    let inner = div-add-mod' (base % (l * d)) l in
    let rows : k * l ≡ base % (l * d) / l * l = ap (λ x. x * l) (sym row) in
    omega (arith, whole, inner, rows, column)

-- a column begins at the place that has its first row
column_from_place :
    (layout : Layout) (base : ℕ) → base % (layout.l * layout.d) / layout.l ≡ first_row layout (base % (layout.l * layout.d) % layout.l)
    → (m c : ℕ) × (c < layout.l) × (base ≡ column_base layout m c)
column_from_place layout base e =
    let c = base % (layout.l * layout.d) % layout.l in
    (base / (layout.l * layout.d), c, mod_below (base % (layout.l * layout.d)) layout.l (some_columns layout), place_again layout.l layout.d base (first_row layout c) c e refl)

place_from_column :
    (layout : Layout) (base m c : ℕ) → c < layout.l → base ≡ column_base layout m c
    → base % (layout.l * layout.d) / layout.l ≡ first_row layout (base % (layout.l * layout.d) % layout.l)
place_from_column layout base m c cl e =
    let place = place_is layout.l layout.d m c (first_row layout c) base cl (first_row-below layout c) e in
    let column : base % (layout.l * layout.d) % layout.l ≡ c = ap (λ x. x % layout.l) place ∙ mod-mul-add (first_row layout c) layout.l c cl in
    ap (λ x. x / layout.l) place ∙ div-mul-add (first_row layout c) layout.l c cl ∙ ap (λ x. first_row layout x) (sym column)

-- the last slot of a column and of a row
pub column_last : (layout : Layout) (slot base : ℕ) → ColumnEnds layout slot base → base + (layout.d - 1) * layout.l ≡ slot
column_last layout slot base ends =
    let below : layout.d - 1 < layout.d = omega (arith, some_rows layout) in
    sym (get_or-slots_of base layout.l layout.d (layout.d - 1) 0 below) ∙ ends.last

pub row_last : (layout : Layout) (slot base : ℕ) → RowEnds layout slot base → base + (layout.l - 1) ≡ slot
row_last layout slot base ends =
    let below : layout.l - 1 < layout.l = omega (arith, some_columns layout) in
    let number = get_or-slots_of base 1 layout.l (layout.l - 1) 0 below in
    omega (arith, number, ends.last)

-- a column that begins so far below a slot ends there
pub column_ends :
    (layout : Layout) (slot base : ℕ) → base + (layout.d - 1) * layout.l ≡ slot → (m c : ℕ) × (c < layout.l) × (base ≡ column_base layout m c)
    → ColumnEnds layout slot base
column_ends layout slot base end column =
    let below : layout.d - 1 < layout.d = omega (arith, some_rows layout) in
    record {
      matrix = column.0;
      column = column.1;
      is_column = column.2;
      first = column.3;
      last = get_or-slots_of base layout.l layout.d (layout.d - 1) 0 below ∙ end;
    }

-- a row begins at each whole number of columns
pub row_ends :
    (layout : Layout) (slot base : ℕ) → layout.rows ≡ true → base + (layout.l - 1) ≡ slot → base % layout.l ≡ 0 → RowEnds layout slot base
row_ends layout slot base sent end whole =
    let below : layout.l - 1 < layout.l = omega (arith, some_columns layout) in
    let number = get_or-slots_of base 1 layout.l (layout.l - 1) 0 below in
    let q = base / layout.l in
    let rows = div-add-mod' (base / layout.l) layout.d in
    let columns = div-add-mod' base layout.l in
    let scaled : (q / layout.d * layout.d + q % layout.d) * layout.l ≡ q * layout.l = ap (λ x. x * layout.l) rows in
    record {
      sent = sent;
      matrix = q / layout.d;
      row = q % layout.d;
      is_row = mod_below q layout.d (some_rows layout);
      first = omega (arith, columns, whole, scaled);
      last = omega (arith, number, end);
    }

pub row_whole : (layout : Layout) (base m r : ℕ) → base ≡ row_base layout m r → base % layout.l ≡ 0
row_whole layout base m r e =
    let whole : base ≡ (m * layout.d + r) * layout.l = omega (arith, e) in
    ap (λ x. x % layout.l) whole ∙ mul-mod_left (m * layout.d + r) layout.l

-- two columns with one first slot are one
pub same_column :
    (layout : Layout) (m n b c : ℕ) → b < layout.l → c < layout.l → column_base layout m b ≡ column_base layout n c → (m ≡ n) × (b ≡ c)
same_column layout m n b c bl cl e =
    let l = layout.l in let d = layout.d in
    let j = first_row layout b in let k = first_row layout c in
    let one : j * l + b < l * d = mul-add-lt j l b d (first_row-below layout b) bl in
    let two : k * l + c < l * d = mul-add-lt k l c d (first_row-below layout c) cl in
    let split : m * (l * d) + (j * l + b) ≡ n * (l * d) + (k * l + c) = omega (arith, e) in
    let matrix = same_from_place m (j * l + b) n (k * l + c) (l * d) one two split in
    (matrix.0, (same_from_place j b k c l bl cl matrix.1).1)

-- two rows with one first slot are one
pub same_row : (layout : Layout) (m n r s : ℕ) → r < layout.d → s < layout.d → row_base layout m r ≡ row_base layout n s → (m ≡ n) × (r ≡ s)
same_row layout m n r s rd sd e =
    let l = layout.l in let d = layout.d in
    let split : (m * d + r) * l + 0 ≡ (n * d + s) * l + 0 = omega (arith, e) in
    let place = same_from_place (m * d + r) 0 (n * d + s) 0 l (some_columns layout) (some_columns layout) split in
    same_from_place m r n s d rd sd place.0

-- the test of a column's beginning, by numbers that are the layout's
pub begins_by_test :
    (layout : Layout) (base l d r : ℕ) → l ≡ layout.l → d ≡ layout.d → r ≡ first_row layout (base % (l * d) % l)
    → (base % (l * d) / l ≡ r → (m c : ℕ) × (c < layout.l) × (base ≡ column_base layout m c))
    × ((m c : ℕ) → c < layout.l → base ≡ column_base layout m c → base % (l * d) / l ≡ r)
begins_by_test layout base l d r columns rows first =
    let place : base % (l * d) ≡ base % (layout.l * layout.d) = cc in
    let row : base % (l * d) / l ≡ base % (layout.l * layout.d) / layout.l = cc in
    let column : base % (l * d) % l ≡ base % (layout.l * layout.d) % layout.l = cc in
    let begin : r ≡ first_row layout (base % (layout.l * layout.d) % layout.l) = first ∙ ap (λ x. first_row layout x) column in (
      λ same. column_from_place layout base (sym row ∙ same ∙ begin),
      λ m c cl e. row ∙ place_from_column layout base m c cl e ∙ sym begin,
    )
