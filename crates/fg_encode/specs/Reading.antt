-- How far a stream is read for what is answered. This project's own.
use Rattle.std.specs.Prelude.{◌≡◌, ◌+◌, ◌*◌, ◌<◌, ◌≤◌, ℕ, Option, None, Some, IfSome, List, [], ◌++◌, length}
use Rattle.fg_ts.specs.Packets.{packet_length}
use Rattle.fg_ts.specs.declared.TsFault.TheVariants.{Ragged, NoSync}
use Rattle.fg_encode.specs.declared.stream.StreamFault.TheVariants.{NotTransport, TooLong}
use Rattle.fg_encode.specs.Stream.{StreamEnding}
use Rattle.fg_encode.specs.StreamReader.{StreamState, EndsHere, StandsAfter}

-- The most bytes that a reader holds: a whole buffer.
abbrev pub most_held : ℕ
most_held = 262144

-- Of a stream that ends so, these bytes were read and the rest is left. To its end; past the limit; or into the packet that
-- doesn't begin with the sync byte, and at most a buffer past that packet's place.
abbrev pub ReachesForStream : ℕ → StreamEnding → List ℕ → List ℕ → Type 0
ReachesForStream max None read rest = rest ≡ []
ReachesForStream max (Some (TooLong n)) read rest = max < length read
ReachesForStream max (Some (NotTransport (Ragged n))) read rest = rest ≡ []
ReachesForStream max (Some (NotTransport (NoSync k))) read rest = (packet_length * k < length read) × (length read ≤ packet_length * k + most_held)

-- A stream of these bytes was read as far as its ending needs, once that is told, and never more than a byte past the limit.
pub record IsStreamReadFor (max : ℕ) (ending : Option StreamEnding) (bytes : List ℕ) (now : Option (List ℕ)) : Type 0 where
  pub read : List ℕ
  pub rest : List ℕ
  pub now_is : now ≡ Some rest
  pub all : bytes ≡ read ++ rest
  pub reaches : IfSome ending (λ ending. ReachesForStream max ending read rest)
  pub bounded : length read ≤ max + 1

-- What each call for a payload leaves of its reader: it stands within the limit, and holds at most a byte past it and at most
-- a buffer; and an ending that it has answered is the one that is there.
pub record ReadsLittle (reader : StreamState) : Type 0 where
  pub within : reader.place ≤ reader.max
  pub bounded : reader.place + length reader.held ≤ reader.max + 1
  pub few : length reader.held ≤ most_held
  pub ending : IfSome reader.kept (λ ending.
      EndsHere ending reader.packets reader.max reader.place reader.held reader.ended)

-- So wherever a reader stands in a stream, that is read as far as an ending needs that was answered.
abbrev pub ReadsAsFar : Type 0
ReadsAsFar =
    (reader : StreamState) (bytes : List ℕ) (now : Option (List ℕ)) (payloads : List (List ℕ))
    → StandsAfter reader (Some bytes) now payloads → ReadsLittle reader
    → IsStreamReadFor reader.max reader.kept bytes now
