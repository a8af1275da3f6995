-- The text of a monitored stream: a line for each fault, and last how many packets and faults there are. This project's own.
use Rattle.std.specs.Prelude.{◌≡◌, ◌<◌, ◌++◌, ℕ, Option, None, Some, List, [], codes, count_by, length, slice_index_or}
use Rattle.std.specs.Option.{is_some}
use Rattle.std.specs.List.{flat_map}
use Rattle.std.specs.Fmt.{decimal}
use Rattle.fg_encode.specs.declared.stream.StreamFault.TheVariants.{NotTransport, TooLong}
use Rattle.fg_encode.specs.Stream.{StreamEnding}
use Rattle.fg_monitor.specs.declared.continuity.Break.{Break}
use Rattle.fg_monitor.specs.Continuity.{IsToldOf}

-- The line of a fault.
unfoldable pub line : Break → List ℕ
line told =
    codes "packet " ++ decimal told.packet ++ codes " pid " ++ decimal told.pid ++ codes " counter " ++ decimal told.counter
    ++ codes " after " ++ decimal told.before ++ codes "\n"

-- The line of a packet, which has none where it is no fault.
abbrev pub line_if : Option Break → List ℕ
line_if None = []
line_if (Some told) = line told

-- The last line, of so many packets and faults.
unfoldable pub last_line : ℕ → ℕ → List ℕ
last_line packets faults = codes "packets " ++ decimal packets ++ codes " faults " ++ decimal faults ++ codes "\n"

-- It is written where the stream ends with its last packet, and left out where it ends early.
abbrev pub closing : StreamEnding → ℕ → ℕ → List ℕ
closing None packets faults = last_line packets faults
closing (Some (NotTransport fault)) packets faults = []
closing (Some (TooLong place)) packets faults = []

-- What there is to tell of each of the packets, in their order.
pub record AreToldOf (packets : List (List ℕ)) (told : List (Option Break)) : Type 0 where
  pub all : length told ≡ length packets
  pub each : (i : ℕ) → i < length packets → IsToldOf packets i (slice_index_or told i None)

-- A stream of these packets that ends so has this text.
pub record IsText (packets : List (List ℕ)) (ending : StreamEnding) (text : List ℕ) : Type 0 where
  pub told : List (Option Break)
  pub are : AreToldOf packets told
  pub text_is : text ≡ flat_map line_if told ++ closing ending (length packets) (count_by is_some told)
