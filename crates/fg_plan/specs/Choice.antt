-- Which matrix is chosen for a burst. That a column's parity brings back one datagram of the column is SMPTE ST 2022-1's; the
-- limits of layouts and the choice are this project's own.
use Rattle.std.specs.Prelude.{◌≡◌, ◌+◌, ◌*◌, ◌<◌, ◌≤◌, ◌⊎◌, ℕ, Bool, Option, Some, None, if◌then◌else◌}
use Rattle.fg_shape.specs.Limits.{IsLayout}

-- How many parity datagrams a matrix has: one for each column, and one for each row where rows have parity.
abbrev pub parity_count : Bool → ℕ → ℕ → ℕ
parity_count rows l d = l + (if rows then d else 0)

-- A matrix of l columns and d rows fits a burst of so many datagrams: it is a layout that is written, no column loses two of
-- them, and its parity is so many percent of its datagrams at most.
pub record Fits (burst most : ℕ) (rows : Bool) (l d : ℕ) : Type 0 where
  pub layout : IsLayout l d rows
  pub wide : burst ≤ l
  pub light : parity_count rows l d * 100 ≤ most * (l * d)

-- One matrix is less than another: it has fewer datagrams, or as many in fewer columns.
abbrev pub IsLess : ℕ → ℕ → ℕ → ℕ → Type 0
IsLess l d m e = (l * d < m * e) ⊎ ((l * d ≡ m * e) × (l < m))

-- Of the matrices with a property this is the least, or there is none.
abbrev pub IsLeastOf : (ℕ → ℕ → Type 0) → Option (ℕ × ℕ) → Type 0
IsLeastOf P None = (l d : ℕ) → ¬ P l d
IsLeastOf P (Some least) = P least.0 least.1 × ((l d : ℕ) → P l d → ¬ IsLess l d least.0 least.1)

-- The least matrix that fits, or none does.
abbrev pub IsChoice : ℕ → ℕ → Bool → Option (ℕ × ℕ) → Type 0
IsChoice burst most rows choice = IsLeastOf (Fits burst most rows) choice

-- The least of those that fit and have fewer columns than l, or as many and fewer rows than d. No public contract cites it.
abbrev pub IsLeastBefore : ℕ → ℕ → Bool → ℕ → ℕ → Option (ℕ × ℕ) → Type 0
IsLeastBefore burst most rows l d choice =
    IsLeastOf (λ m e. Fits burst most rows m e × ((m < l) ⊎ ((m ≡ l) × (e < d)))) choice
