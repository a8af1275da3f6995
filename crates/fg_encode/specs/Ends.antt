-- Which columns and rows of a layout end at a slot (SMPTE ST 2022-1; where columns begin is this project's own), as lists.
use Rattle.std.specs.Prelude.{◌+◌, ◌-◌, ◌*◌, ◌==◌, ℕ, List, [], length, map, if◌then◌else◌}
use Rattle.std.specs.List.{filter, flat_map, range_with_len}
use Rattle.fg_shape.specs.declared.layouts.Layout.{Layout}
use Rattle.fg_shape.specs.Layout.{column_base, row_base}

-- The first slots of all columns of the first matrices, and of all rows.
abbrev pub column_bases : Layout → ℕ → List ℕ
column_bases layout matrices =
    flat_map (λ m. map (column_base layout m) (range_with_len 0 layout.l)) (range_with_len 0 matrices)

abbrev pub row_bases : Layout → ℕ → List ℕ
row_bases layout matrices =
    flat_map (λ m. map (row_base layout m) (range_with_len 0 layout.d)) (range_with_len 0 matrices)

-- Those whose last slot is this one. A matrix that begins past the slot has none, and at most one column and one row end
-- at a slot.
abbrev pub columns_ending : Layout → ℕ → List ℕ
columns_ending layout slot =
    filter (λ base. (base + (layout.d - 1) * layout.l) == slot) (column_bases layout (slot + 1))

abbrev pub rows_ending : Layout → ℕ → List ℕ
rows_ending layout slot =
    if layout.rows then filter (λ base. (base + (layout.l - 1)) == slot) (row_bases layout (slot + 1)) else []

-- How many columns and how many rows end before a slot.
abbrev pub columns_before : Layout → ℕ → ℕ
columns_before layout slot = length (flat_map (columns_ending layout) (range_with_len 0 slot))

abbrev pub rows_before : Layout → ℕ → ℕ
rows_before layout slot = length (flat_map (rows_ending layout) (range_with_len 0 slot))
