-- What the buffers of a batch hold. No public contract cites it.
use Rattle.std.specs.Prelude.{◌≡◌, ◌≤◌, ◌<◌, ℕ, List, ◌∷◌, length, map, take, get_or}
use Rattle.fg_trace.specs.Trace.{Record}
use Rattle.fg_encode.specs.declared.batch.MediaBuffer.{MediaBuffer}
use Rattle.fg_encode.specs.declared.batch.ParityBuffer.{ParityBuffer}

abbrev pub media_of : MediaBuffer → Record
media_of buffer = record { time = buffer.time; port = buffer.port; datagram = take buffer.size buffer.bytes }

abbrev pub parity_of : ParityBuffer → Record
parity_of buffer = record { time = buffer.time; port = buffer.port; datagram = take buffer.size buffer.bytes }

-- The records of a batch: the media datagram's buffer comes first.
abbrev pub records_of : ℕ → MediaBuffer → List ParityBuffer → List Record
records_of count media parities = take count (media_of media ∷ map parity_of parities)

-- The sizes are within the buffers.
pub record AreBuffers (count : ℕ) (media : MediaBuffer) (parities : List ParityBuffer) : Type 0 where
  pub count_limit : count ≤ 3
  pub two : length parities ≡ 2
  pub media_size : media.size ≤ 1328
  pub parity_size : (i : ℕ) (d : ParityBuffer) → i < 2 → (get_or parities i d).size ≤ 1344
