-- A sink in memory: this project's own rule.
use Rattle.std.specs.Prelude.{ℕ, ◌-◌, List, length, min}
use Rattle.fg_io.specs.Calls.{CallState}

-- the bytes that are written, how many it takes in all, and the calls
pub record SinkState : Type 0 where
  pub written : List ℕ
  pub room : ℕ
  pub calls : CallState

-- how many bytes it takes of a piece of this length: those that fit
abbrev pub taken_count : SinkState → ℕ → ℕ
taken_count sink count = min count (sink.room - length sink.written)
