-- What `fromcap` is for: this project's own.
use Rattle.std.specs.Prelude.{◌≡◌, ℕ, List, Option}
use Rattle.fg_pcap.specs.declared.ending.CaptureEnding.{CaptureEnding}
use Rattle.fg_pcap.specs.Capture.{IsRefused}
use Rattle.fg_pcap.specs.FromCapture.{ComesTo, Converts, ConvertsPart, ReachesFor}
use Rattle.fg_pcap.specs.ReadFor.{IsReadFor}
use Rattle.fg_commands.specs.declared.ended.Why.{Why}
use Rattle.fg_commands.specs.Endings.{ReadsAs, why_of_capture}
use Rattle.fg_commands.specs.Filter.{Filter, of_ends}
use Rattle.fg_commands.specs.Traces.{EndsTrace}

-- The answer is that to the capture in these bytes, under this limit on their number.
abbrev pub IsCaptureAnswer : ℕ → List ℕ → Why → Type 0
IsCaptureAnswer max bytes answer =
    (trace : List ℕ) × (end : CaptureEnding) × ComesTo bytes max trace end × (answer ≡ why_of_capture end)

-- The bytes don't begin with the file header of a capture that is read.
abbrev pub IsNoCapture : ℕ → List ℕ → Type 0
IsNoCapture max bytes = (end : CaptureEnding) × IsRefused bytes max end

-- The capture in these bytes was read as far as the answer needs, and this is left.
abbrev pub ReadsCapture : ℕ → Why → List ℕ → Option (List ℕ) → Type 0
ReadsCapture max = ReadsAs why_of_capture (IsReadFor (ReachesFor max) max)

-- The datagrams of the input's capture are written as a trace, and the answer is that of its ending.
abbrev pub from_capture : ℕ → Filter
from_capture max = of_ends why_of_capture (IsCaptureAnswer max) (Converts max) (ConvertsPart max) (ReadsCapture max) EndsTrace (IsNoCapture max)
