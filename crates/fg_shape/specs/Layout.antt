-- The parity equations of a layout: the stream's media datagrams, numbered from 0, stand row after row in
-- matrices of l columns and d rows. SMPTE ST 2022-1 has such rows and columns; where a column begins in the
-- two layouts is this project's own.
use Rattle.std.specs.Prelude.{◌≡◌, ◌+◌, ◌-◌, ◌*◌, ◌%◌, ◌<◌, ℕ, IsTrue, if◌then◌else◌, slice_index}
use Rattle.fg_shape.specs.declared.layouts.Layout.{Layout}
use Rattle.fg_shape.specs.Shape.{slots_of}

-- The row of its matrix in which column c begins: the first, or in a staggered layout each column one row
-- below the one before it, and again the first where there is none.
abbrev pub first_row : Layout → ℕ → ℕ
first_row layout c = if layout.staggered then c % layout.d else 0

-- The first slot of column c of matrix m.
abbrev pub column_base : Layout → ℕ → ℕ → ℕ
column_base layout m c = m * layout.l * layout.d + c + first_row layout c * layout.l

-- The first slot of row r of matrix m.
abbrev pub row_base : Layout → ℕ → ℕ → ℕ
row_base layout m r = m * layout.l * layout.d + r * layout.l

-- A column has this first slot and this last slot. It has d slots, each l after the one before.
pub record ColumnEnds (layout : Layout) (slot base : ℕ) : Type 0 where
  pub matrix : ℕ
  pub column : ℕ
  pub is_column : column < layout.l
  pub first : base ≡ column_base layout matrix column
  pub last : slice_index (slots_of base layout.l layout.d) (layout.d - 1) ≡ slot

-- A row has this first slot and this last slot, and rows are sent. It has l slots, one after another.
pub record RowEnds (layout : Layout) (slot base : ℕ) : Type 0 where
  pub sent : IsTrue layout.rows
  pub matrix : ℕ
  pub row : ℕ
  pub is_row : row < layout.d
  pub first : base ≡ row_base layout matrix row
  pub last : slice_index (slots_of base 1 layout.l) (layout.l - 1) ≡ slot
