-- The steps of a reader of a stream. No public contract cites it.
use Rattle.std.specs.Prelude.{◌≡◌, ◌+◌, ◌*◌, ◌/◌, ◌<◌, ◌≤◌, ◌⊎◌, ◌^◌, ℕ, true, Option, IfSome, IsSome, List, [], length, take, drop}
use Rattle.std.specs.Io.KnownBytes.{IsAtEnd}
use Rattle.fg_words.specs.Word.{payload_limit}
use Rattle.fg_io.specs.InputBuffer.{InputState, TakesMore}
use Rattle.fg_ts.specs.declared.TsFault.{TsFault}
use Rattle.fg_ts.specs.declared.TsFault.TheVariants.{Ragged, NoSync}
use Rattle.fg_ts.specs.Packets.{ArePackets, packet_length}
use Rattle.fg_encode.specs.declared.stream.TheConstants.{PIECE}
use Rattle.fg_encode.specs.Stream.{StreamEnding}
use Rattle.fg_encode.specs.StreamReader.{StreamState, EndsHere}
use Rattle.fg_encode.specs.Reading.{most_held}

-- What contracts see of a reader that has this buffer, at whose front so many bytes were answered, and the rest.
abbrev pub reader_of : InputState → ℕ → ℕ → Option StreamEnding → StreamState
reader_of input packets answered kept = record {
  packets = packets;
  max = input.max;
  place = input.place + answered;
  held = drop answered input.held;
  payload = take answered input.held;
  ended = input.ended;
  kept = kept;
}

-- The same where none were.
abbrev pub reader_at : InputState → ℕ → Option StreamEnding → StreamState
reader_at input packets kept = record {
  packets = packets;
  max = input.max;
  place = input.place;
  held = input.held;
  payload = [];
  ended = input.ended;
  kept = kept;
}

-- What a reader keeps true of them.
pub record IsReader (input : InputState) (packets answered : ℕ) (kept : Option StreamEnding) : Type 0 where
  pub longest : input.longest ≡ payload_limit
  pub piece : input.piece ≡ PIECE
  pub least : 1 ≤ packets
  pub most : packets ≤ 7
  pub limit : input.max ≤ 2 ^ 40
  pub answered_held : answered ≤ length input.held
  pub within : input.place + answered ≤ input.max
  pub bounded : input.place + length input.held ≤ input.max + 1
  pub few : length input.held ≤ most_held
  pub quiet : IsSome kept → answered ≡ 0
  pub right : IfSome kept (λ ending. EndsHere ending packets input.max input.place input.held input.ended)

-- A reader has taken in bytes that the source gave, and let its payload go. Once the source has come to its end, nothing
-- is read.
pub record TakesIn (old : StreamState) (left : Option (List ℕ)) (new : StreamState) (rest : Option (List ℕ)) : Type 0 where
  pub same : new ≡ record old { held = new.held; payload = []; ended = new.ended }
  pub takes : TakesMore old.held left new.held rest
  pub stays : old.ended ≡ true → (new.ended ≡ true) × (new.held ≡ old.held) × (rest ≡ left)
  pub at_end : new.ended ≡ true → (old.ended ≡ true) ⊎ IsAtEnd rest

-- The reader holds a whole payload, or one byte past the limit, or all that there is.
abbrev pub HoldsEnough : StreamState → Type 0
HoldsEnough reader =
    (packet_length * reader.packets ≤ length reader.held) ⊎ ((reader.max < reader.place + length reader.held) ⊎ (reader.ended ≡ true))

-- The next payload is whole packets, and within the limit.
pub record Accepts (reader : StreamState) : Type 0 where
  pub within : reader.place + length (take (packet_length * reader.packets) reader.held) ≤ reader.max
  pub count : ℕ
  pub least : 1 ≤ count
  pub most : count ≤ reader.packets
  pub whole : ArePackets (take (packet_length * reader.packets) reader.held) count

-- The next payload was answered.
abbrev pub after_payload : StreamState → StreamState
after_payload reader = record reader {
  place = reader.place + length (take (packet_length * reader.packets) reader.held);
  held = drop (packet_length * reader.packets) reader.held;
  payload = take (packet_length * reader.packets) reader.held;
}

-- A fault of a payload that begins at a place, told for the whole stream.
abbrev pub fault_from : ℕ → TsFault → TsFault
fault_from place (Ragged size) = Ragged (place + size)
fault_from place (NoSync number) = NoSync (place / packet_length + number)
