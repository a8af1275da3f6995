-- A source in memory: this project's own rule.
use Rattle.std.specs.Prelude.{ℕ, List, length, min}
use Rattle.fg_io.specs.Calls.{CallState}

-- the bytes that are left, the most that one call gives, and the calls
pub record SourceState : Type 0 where
  pub left : List ℕ
  pub piece : ℕ
  pub calls : CallState

-- how many bytes a call gives that has this much room
abbrev pub given_count : SourceState → ℕ → ℕ
given_count source room = min (min room source.piece) (length source.left)
