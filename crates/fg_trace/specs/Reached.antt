-- How far a call has read a trace that comes to an answer or to a fault. No public contract cites what stands here.
use Rattle.std.specs.Prelude.{ℕ, Option, IfSome, Result, Ok, Err, List}
use Rattle.fg_io.specs.declared.fault.Fault.{Fault}
use Rattle.fg_trace.specs.declared.step.Finish.{Finish}
use Rattle.fg_trace.specs.Finish.{finish_after}
use Rattle.fg_trace.specs.Reader.{ReaderState, StandsAfter}
use Rattle.fg_trace.specs.Reading.{IsReadFor}
use Rattle.fg_trace.specs.Trace.{Record}

-- The answer of a call that comes to this.
abbrev pub answer_to : Result Finish Fault → Finish
answer_to (Ok answer) = answer
answer_to (Err fault) = finish_after fault

-- The input, which had `first`, was read as far as that answer needs.
abbrev pub IsReadTo : ℕ → Result Finish Fault → Option (List ℕ) → Option (List ℕ) → Type 0
IsReadTo max came first now = IfSome first (λ bytes. IsReadFor max (answer_to came) bytes now)

-- The reader stands after some records.
abbrev pub Stands : ReaderState → Option (List ℕ) → Option (List ℕ) → Type 0
Stands reader first now = (records : List Record) × StandsAfter reader first now records
