-- The answers to traces, and how far one is read for each. This project's own.
use Rattle.std.specs.Prelude.{◌≡◌, ℕ, List, [], Option}
use Rattle.fg_trace.specs.declared.step.Finish.{Finish}
use Rattle.fg_trace.specs.Reading.{IsReadFor}
use Rattle.fg_trace.specs.Trace.{Record, Ending, NotTrace, IsTrace}
use Rattle.fg_commands.specs.declared.ended.Why.{Why}
use Rattle.fg_commands.specs.declared.ended.Why.TheVariants as why
use Rattle.fg_commands.specs.Endings.{IsDoneOr, why_of_ending, why_of_finish}

-- The answer is that to the trace of these bytes, under this limit on their number.
abbrev pub IsTraceAnswer : ℕ → List ℕ → Why → Type 0
IsTraceAnswer max bytes answer =
    (records : List Record) × (end : Ending) × IsTrace bytes max records end × (answer ≡ why_of_ending end)

-- The bytes are no trace.
abbrev pub IsNoTrace : ℕ → List ℕ → Type 0
IsNoTrace max bytes = (n : ℕ) × IsTrace bytes max [] (NotTrace n)

-- After this answer nothing of a trace is left to read.
abbrev pub EndsTrace : Why → Type 0
EndsTrace = IsDoneOr why.Cut

-- The trace in these bytes, under this limit on their number, was read as far as the answer needs, and this is left.
abbrev pub ReadsTrace : ℕ → Why → List ℕ → Option (List ℕ) → Type 0
ReadsTrace max answer bytes now = (finish : Finish) × (answer ≡ why_of_finish finish) × IsReadFor max finish bytes now
