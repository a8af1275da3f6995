-- What contracts see of the parts of a source of thinned encodings, and what they keep. No public contract cites it.
use Rattle.std.specs.Prelude.{◌≡◌, ◌-◌, ◌*◌, ◌≤◌, ◌⊎◌, ◌^◌, ℕ, Bool, true, false, Option, None, Some, List, [], ◌++◌, length}
use Rattle.std.specs.Io.KnownBytes.{IsAtEnd}
use Rattle.fg_shape.specs.declared.encoding.Losses.{Losses}
use Rattle.fg_trace.specs.Trace.{trace_of}
use Rattle.fg_encode.specs.Encoder.{EncoderState, StandsAfter}
use Rattle.fg_shape.specs.Settings.{CanEncode}
use Rattle.fg_encode.specs.Encoding.{encoding}
use Rattle.fg_encode.specs.Reading.{ReadsLittle}
use Rattle.fg_encode.specs.Stream.{LeavesNothing, StreamEnding}
use Rattle.fg_encode.specs.StreamReader.{StreamState, StandsAfter as ReaderStands}
use Rattle.fg_thin.specs.Thinned.{is_lost, thinned}
use Rattle.fg_thin.specs.ThinnedSource.{whole_stream}

-- The encoder; which records are lost; the number of the next record; and the bytes that are still to be given.
pub record SenderState : Type 0 where
  pub encoder : EncoderState
  pub losses : Losses
  pub number : ℕ
  pub held : List ℕ

-- The bytes of the trace of what is sent of these payloads.
abbrev pub trace_so_far : SenderState → List (List ℕ) → List ℕ
trace_so_far sender payloads = trace_of (thinned sender.encoder.settings (is_lost sender.losses) payloads)

-- How many of them were given.
abbrev pub given_of : SenderState → List (List ℕ) → ℕ
given_of sender payloads = length (trace_so_far sender payloads) - length sender.held

-- The encoder can take the next payload; or the last one was a shorter one, and nothing is left.
abbrev pub CanGoOn : StreamState → EncoderState → List (List ℕ) → Type 0
CanGoOn reader encoder payloads =
    (StandsAfter encoder payloads × (reader.place ≡ 188 * reader.packets * length payloads))
    ⊎ ((reader.ended ≡ true) × (reader.held ≡ []))

-- What was taken of a stream was sent: the reader stands after these payloads, of a source that has `rest` left, and what the
-- sender holds ends the trace so far. Once the stream's end is told, nothing is held and the reader keeps it.
pub record IsUnderWay
    (reader : StreamState) (sender : SenderState) (payloads : List (List ℕ)) (told : Bool) (fault : StreamEnding)
    (rest : Option (List ℕ)) : Type 0 where
  pub stands : ReaderStands reader (whole_stream payloads reader.held rest) rest payloads
  pub fits : CanEncode sender.encoder.settings
  pub packets : reader.packets ≡ sender.encoder.settings.packets
  pub limit : reader.max ≤ 2 ^ 40
  pub little : ReadsLittle reader
  pub number : sender.number ≡ length (encoding sender.encoder.settings payloads)
  pub counted : sender.number ≤ reader.place
  pub goes_on : CanGoOn reader sender.encoder payloads
  pub held : (gone : List ℕ) × (trace_so_far sender payloads ≡ gone ++ sender.held)
  pub told_all : told ≡ true → (sender.held ≡ []) × (reader.kept ≡ Some fault)
  pub untold : told ≡ false → (reader.kept ≡ None) × (fault ≡ None)

-- Where a told ending leaves nothing, the source is at its end.
abbrev pub IsReadOut : Bool → StreamEnding → Option (List ℕ) → Type 0
IsReadOut told fault rest = told ≡ true → LeavesNothing fault → IsAtEnd rest
