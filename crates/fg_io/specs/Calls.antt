-- The calls of an object in memory, some of which are to fail: this project's own rule.
use Rattle.std.specs.Prelude.{ℕ, ◌+◌, List, min, Contains}
use Rattle.fg_io.specs.Faults.{last_count}

-- the numbers of the calls that are to fail, how many calls there have been, and how many faults
pub record CallState : Type 0 where
  pub fails : List ℕ
  pub made : ℕ
  pub faults : ℕ

-- one more, up to the last value of a count
abbrev pub next_count : ℕ → ℕ
next_count count = min (count + 1) last_count

-- no call has been made
abbrev pub first_calls : List ℕ → CallState
first_calls fails = record { fails = fails; made = 0; faults = 0 }

-- the next call is one of those that are to fail: the calls are numbered from 0
abbrev pub NextFails : CallState → Type 0
NextFails calls = Contains calls.fails calls.made

-- one call more
abbrev pub after_call : CallState → CallState
after_call calls = record calls { made = next_count calls.made }

-- one call more, and one fault more
abbrev pub after_fault : CallState → CallState
after_fault calls = record calls { made = next_count calls.made; faults = next_count calls.faults }
