-- Which layouts are written. The limits are this project's own, and so is the order of the faults.
use Rattle.std.specs.Prelude.{◌*◌, ◌<◌, ◌≤◌, ℕ, Bool, IsTrue}
use Rattle.fg_shape.specs.declared.layouts.LayoutFault.{LayoutFault}
use Rattle.fg_shape.specs.declared.layouts.LayoutFault.TheVariants.{Columns, Rows, Product, RowsNeedFour}

-- 1 to 20 columns.
abbrev pub HasColumns : ℕ → Type 0
HasColumns l = (1 ≤ l) × (l ≤ 20)

-- 4 to 20 rows.
abbrev pub HasRows : ℕ → Type 0
HasRows d = (4 ≤ d) × (d ≤ 20)

-- A layout of l columns and d rows, with the rows' parity sent or not.
pub record IsLayout (l d : ℕ) (rows : Bool) : Type 0 where
  pub columns : HasColumns l
  pub height : HasRows d
  pub product : l * d ≤ 100
  pub rows_need_four : IsTrue rows → 4 ≤ l

-- The fault's rule is the first of the four that such a layout breaks.
abbrev pub FirstLayoutFault : ℕ → ℕ → Bool → LayoutFault → Type 0
FirstLayoutFault l d rows Columns = ¬ HasColumns l
FirstLayoutFault l d rows Rows = HasColumns l × (¬ HasRows d)
FirstLayoutFault l d rows Product = HasColumns l × HasRows d × (100 < l * d)
FirstLayoutFault l d rows RowsNeedFour = HasColumns l × HasRows d × (l * d ≤ 100) × IsTrue rows × (l < 4)
