-- What `inspect` is for: this project's own.
use Rattle.std.specs.Prelude.{ℕ, List}
use Rattle.fg_inspect.specs.Inspect.{Tells, TellsPart}
use Rattle.fg_commands.specs.Filter.{Filter, of_trace}

-- The records of the input's trace are told, and the answer is that of its ending.
abbrev pub inspection : List ℕ → ℕ → Filter
inspection flows max = of_trace max (Tells flows max) (TellsPart flows max)
