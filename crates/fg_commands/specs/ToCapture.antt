-- What `tocap` is for: this project's own.
use Rattle.std.specs.Prelude.{◌≡◌, ◌⊎◌, ℕ, List, Option, IfSome}
use Rattle.fg_trace.specs.Trace.{Record}
use Rattle.fg_pcap.specs.declared.writer.SpellingEnding.{SpellingEnding}
use Rattle.fg_pcap.specs.ReadFor.{IsReadFor}
use Rattle.fg_pcap.specs.ToCapture.{ComesBack, IsSpelled, ReachesFor, Spells, SpellsPart, WritesCapture}
use Rattle.fg_commands.specs.declared.ended.Why.{Why}
use Rattle.fg_commands.specs.Ended.{IsFault}
use Rattle.fg_commands.specs.Endings.{ReadsAs, why_of_spelling}
use Rattle.fg_commands.specs.Filter.{Filter, also_back, of_ends}
use Rattle.fg_commands.specs.Traces.{EndsTrace, IsNoTrace}

-- The answer is that to the trace in these bytes, where it is written as a capture.
abbrev pub IsSpellingAnswer : ℕ → List ℕ → Why → Type 0
IsSpellingAnswer max bytes answer =
    (end : SpellingEnding) × (records : List Record) × IsSpelled end bytes max records × (answer ≡ why_of_spelling end)

-- The trace in these bytes, which is written as a capture, was read as far as the answer needs, and this is left.
abbrev pub ReadsToSpell : ℕ → Why → List ℕ → Option (List ℕ) → Type 0
ReadsToSpell max = ReadsAs why_of_spelling (IsReadFor (ReachesFor max) max)

-- What was written of the trace in these bytes, where it is a capture, is read back.
abbrev pub CaptureComesBack : ℕ → Why → List ℕ → Option (List ℕ) → Option (List ℕ) → Type 0
CaptureComesBack max answer bytes written written' =
    IsFault answer ⊎ ((end : SpellingEnding) × (answer ≡ why_of_spelling end) × (WritesCapture end → ComesBack max end bytes written written'))

-- The records of the input's trace are written as a capture, to its ending or to the first that doesn't fit, and that is the
-- answer. What is written is a capture from which `fromcap` makes the trace of the records that were written.
abbrev pub to_capture : ℕ → Filter
to_capture max = also_back
    (λ answer input written written'. IfSome input (λ bytes. CaptureComesBack max answer bytes written written'))
    (of_ends why_of_spelling (IsSpellingAnswer max) (Spells max) (SpellsPart max) (ReadsToSpell max) EndsTrace (IsNoTrace max))
