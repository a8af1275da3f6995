-- The answers to streams, and how far one is read for each. This project's own.
use Rattle.std.specs.Prelude.{◌≡◌, ℕ, List, Option}
use Rattle.fg_ts.specs.declared.TsFault.TheVariants as packets
use Rattle.fg_encode.specs.Reading.{IsStreamReadFor}
use Rattle.fg_encode.specs.Stream.{StreamEnding, IsCut}
use Rattle.fg_commands.specs.declared.ended.Why.{Why}
use Rattle.fg_commands.specs.declared.ended.Why.TheVariants as why
use Rattle.fg_commands.specs.Endings.{IsDoneOr, ReadsAs, why_of_stream}

-- The answer is that to the stream of these bytes, with so many packets in a payload, under this limit on their number.
abbrev pub IsStreamAnswer : ℕ → ℕ → List ℕ → Why → Type 0
IsStreamAnswer packets max bytes answer =
    (payloads : List (List ℕ)) × (end : StreamEnding)
    × IsCut packets max bytes payloads end × (answer ≡ why_of_stream end)

-- After this answer nothing of a stream is left to read.
abbrev pub EndsStream : Why → Type 0
EndsStream = IsDoneOr (λ n. why.NotTransport (packets.Ragged n))

-- The stream in these bytes was read as far as its ending needs, where that is answered; and after a fault at most a byte past
-- the limit. This is left.
abbrev pub ReadsStream : ℕ → Why → List ℕ → Option (List ℕ) → Type 0
ReadsStream max = ReadsAs why_of_stream (IsStreamReadFor max)
