-- Where columns and rows end.
use Rattle.std.proofs.Common.{◌≡◌, ℕ, ◌+◌, ◌-◌, ◌*◌, ◌<◌, true, refl, ◌∙◌, arith}
use Rattle.std.specs.Prelude.{slice_index}
use Rattle.fg_shape.specs.declared.layouts.Layout.{Layout}
use Rattle.fg_shape.specs.Layout.{column_base, row_base, ColumnEnds, RowEnds}
use Rattle.fg_shape.specs.Shape.{slots_of}
use Rattle.fg_shape.proofs.ShapeLemmas.{get_or-slots_of}

pub last_of_column : (layout : Layout) (base : ℕ) → slice_index (slots_of base layout.l layout.d) (layout.d - 1) ≡ base + (layout.d - 1) * layout.l
last_of_column layout base = get_or-slots_of base layout.l layout.d (layout.d - 1) 0 (omega (arith, layout.accepted.height))

pub last_of_row : (layout : Layout) (base : ℕ) → slice_index (slots_of base 1 layout.l) (layout.l - 1) ≡ base + (layout.l - 1)
last_of_row layout base = get_or-slots_of base 1 layout.l (layout.l - 1) 0 (omega (arith, layout.accepted.columns)) ∙ omega arith

abbrev pub column_ends : (layout : Layout) (slot base : ℕ) → base + (layout.d - 1) * layout.l ≡ slot → (m c : ℕ) × (c < layout.l) × (base ≡ column_base layout m c) → ColumnEnds layout slot base
column_ends layout slot base end column =
    record { matrix = column.0; column = column.1; is_column = column.2; first = column.3; last = last_of_column layout base ∙ end }

abbrev pub row_ends : (layout : Layout) (slot m r : ℕ) → r < layout.d → layout.rows ≡ true → row_base layout m r + (layout.l - 1) ≡ slot → RowEnds layout slot (row_base layout m r)
row_ends layout slot m r rd sent end =
    record { sent = sent; matrix = m; row = r; is_row = rd; first = refl; last = last_of_row layout (row_base layout m r) ∙ end }
