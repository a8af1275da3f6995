-- Laws of the slots of an equation, and of layouts.
use Rattle.std.specs.Prelude.{◌≡◌, ◌+◌, ◌*◌, ◌<◌, ◌≤◌, ℕ, Bool, length, slice_index}
use Rattle.fg_shape.specs.declared.layouts.Layout.{Layout}
use Rattle.fg_shape.specs.declared.layouts.LayoutFault.{LayoutFault}
use Rattle.fg_shape.specs.Layout.{ColumnEnds, RowEnds}
use Rattle.fg_shape.specs.Limits.{FirstLayoutFault, IsLayout}
use Rattle.fg_shape.specs.Shape.{slots_of, IsShape}

-- A shape has as many slots as it counts.
abbrev pub CountsItsSlots : Type 0
CountsItsSlots = (base offset na : ℕ) → length (slots_of base offset na) ≡ na

-- The slot of each number is the base and that many offsets.
abbrev pub NumbersItsSlots : Type 0
NumbersItsSlots =
    (base offset na j : ℕ) → j < na → slice_index (slots_of base offset na) j ≡ base + j * offset

-- Different slots of a shape are different positions.
abbrev pub SlotsDiffer : Type 0
SlotsDiffer =
    (base offset na i j : ℕ) → 1 ≤ offset → i < na → j < na
    → slice_index (slots_of base offset na) i ≡ slice_index (slots_of base offset na) j
    → i ≡ j

-- The columns and rows of a layout have shapes that are read.
abbrev pub LayoutsAreRead : Type 0
LayoutsAreRead = (layout : Layout) → IsShape layout.l layout.d × IsShape 1 layout.l

-- At most one column ends at a slot: two that do are the same column of the same matrix.
abbrev pub OneColumnEnds : Type 0
OneColumnEnds =
    (layout : Layout) (slot a b : ℕ) (x : ColumnEnds layout slot a) (y : ColumnEnds layout slot b)
    → (x.matrix ≡ y.matrix) × (x.column ≡ y.column) × (a ≡ b)

-- At most one row ends at a slot: two that do are the same row of the same matrix.
abbrev pub OneRowEnds : Type 0
OneRowEnds =
    (layout : Layout) (slot a b : ℕ) (x : RowEnds layout slot a) (y : RowEnds layout slot b)
    → (x.matrix ≡ y.matrix) × (x.row ≡ y.row) × (a ≡ b)

-- A layout that is written has no fault, and another at most one that is its first.
abbrev pub LayoutsHaveNoFault : Type 0
LayoutsHaveNoFault =
    (l d : ℕ) (rows : Bool) (fault : LayoutFault)
    → IsLayout l d rows → FirstLayoutFault l d rows fault → ⊥

abbrev pub OneLayoutFault : Type 0
OneLayoutFault =
    (l d : ℕ) (rows : Bool) (a b : LayoutFault)
    → FirstLayoutFault l d rows a → FirstLayoutFault l d rows b → a ≡ b
