-- How a transport stream (ISO/IEC 13818-1) is cut into the payloads of media datagrams, which are whole packets of 188 bytes
-- (SMPTE ST 2022-2). The limit on the stream's length is this project's own.
use Rattle.std.specs.Prelude.{◌≡◌, ◌+◌, ◌*◌, ◌<◌, ◌≤◌, ℕ, ⊤, Option, None, Some, List, length, map, take, drop}
use Rattle.std.specs.List.{range_with_len}
use Rattle.fg_ts.specs.declared.TsFault.TheVariants.{Ragged, NoSync}
use Rattle.fg_ts.specs.Packets.{ArePackets, FirstFault, packet_length}
use Rattle.fg_encode.specs.declared.stream.StreamFault.{StreamFault}
use Rattle.fg_encode.specs.declared.stream.StreamFault.TheVariants.{NotTransport, TooLong}

-- Payload number i, counted from 0, of a stream with so many packets in a payload: the last one is as it comes.
abbrev pub payload_of : ℕ → List ℕ → ℕ → List ℕ
payload_of packets bytes i = take (packet_length * packets) (drop (packet_length * packets * i) bytes)

abbrev pub HasPayload : ℕ → List ℕ → ℕ → Type 0
HasPayload packets bytes i = packet_length * packets * i < length bytes

-- The stream has more bytes than it may, and this payload isn't whole within the first `max`.
pub record IsPastLimit (packets max : ℕ) (bytes : List ℕ) (i : ℕ) : Type 0 where
  pub longer : max < length bytes
  pub past : max < packet_length * packets * i + length (payload_of packets bytes i)

-- The stream has this payload, within the limit, and it is whole packets.
pub record IsAcceptable (packets max : ℕ) (bytes : List ℕ) (i : ℕ) : Type 0 where
  pub there : HasPayload packets bytes i
  pub within : ¬ IsPastLimit packets max bytes i
  pub whole : (count : ℕ) × ArePackets (payload_of packets bytes i) count

-- These are the stream's first payloads, and each is acceptable.
pub record AreFirst (packets max : ℕ) (bytes : List ℕ) (payloads : List (List ℕ)) : Type 0 where
  pub cut : payloads ≡ map (payload_of packets bytes) (range_with_len 0 (length payloads))
  pub acceptable : (i : ℕ) → i < length payloads → IsAcceptable packets max bytes i

-- How a stream ends: with its last payload, where there is no fault; or early, at a payload that is past the limit or isn't
-- whole packets.
abbrev pub StreamEnding : Type 0
StreamEnding = Option StreamFault

-- The stream ends so at payload number i: it has none there, or that one isn't acceptable. `TooLong` tells the payload's
-- first byte, `Ragged` the length of the whole stream, and `NoSync` the packet's number in the whole stream.
abbrev pub EndsAt : StreamEnding → ℕ → ℕ → List ℕ → ℕ → Type 0
EndsAt None packets max bytes i = length bytes ≤ packet_length * packets * i
EndsAt (Some (TooLong n)) packets max bytes i =
    HasPayload packets bytes i × IsPastLimit packets max bytes i × (n ≡ packet_length * packets * i)
EndsAt (Some (NotTransport (Ragged n))) packets max bytes i =
    HasPayload packets bytes i × (¬ IsPastLimit packets max bytes i)
    × FirstFault (Ragged (length (payload_of packets bytes i))) (payload_of packets bytes i) × (n ≡ length bytes)
EndsAt (Some (NotTransport (NoSync k))) packets max bytes i =
    HasPayload packets bytes i × (¬ IsPastLimit packets max bytes i)
    × ((j : ℕ) × FirstFault (NoSync j) (payload_of packets bytes i) × (k ≡ packets * i + j))

-- The bytes are cut into these payloads, and then the stream ends so.
pub record IsCut (packets max : ℕ) (bytes : List ℕ) (payloads : List (List ℕ)) (ending : StreamEnding) : Type 0 where
  pub first : AreFirst packets max bytes payloads
  pub ends : EndsAt ending packets max bytes (length payloads)

-- After such an ending nothing of the stream is left: it ended with its last payload, or its length is told.
abbrev pub LeavesNothing : StreamEnding → Type 0
LeavesNothing None = ⊤
LeavesNothing (Some (TooLong n)) = ⊥
LeavesNothing (Some (NotTransport (Ragged n))) = ⊤
LeavesNothing (Some (NotTransport (NoSync k))) = ⊥

-- Bytes have at most one list of payloads, and one ending.
abbrev pub OneCut : Type 0
OneCut = (packets max : ℕ) (bytes : List ℕ) (one other : List (List ℕ)) (end end' : StreamEnding)
    → IsCut packets max bytes one end → IsCut packets max bytes other end' → (one ≡ other) × (end ≡ end')
