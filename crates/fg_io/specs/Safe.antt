-- A source that never fails: this project's own rule.
use Rattle.std.specs.Prelude.{ℕ, List, length, min}

-- the bytes that are left, and the most that one call gives
pub record SafeState : Type 0 where
  pub left : List ℕ
  pub piece : ℕ

-- how many bytes a call gives that has this much room
abbrev pub safe_count : SafeState → ℕ → ℕ
safe_count source room = min (min room source.piece) (length source.left)
