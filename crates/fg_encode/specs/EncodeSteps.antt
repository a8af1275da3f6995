-- How far an encoding has come. No public contract cites what stands here.
use Rattle.std.specs.Prelude.{◌≡◌, ◌⊎◌, ◌≤◌, ◌^◌, ℕ, true, List, [], Option, None, Some, IfSome}
use Rattle.std.specs.Io.KnownBytes.{IsAtEnd}
use Rattle.fg_io.specs.Sent.{Sent}
use Rattle.fg_io.specs.Texts.{ReadTexts}
use Rattle.fg_shape.specs.declared.encoding.Settings.{Settings}
use Rattle.fg_trace.specs.Trace.{trace_of}
use Rattle.fg_encode.specs.declared.encoding.Encoding.{Encoding}
use Rattle.fg_encode.specs.Encode.{Encodes, EncodesPart}
use Rattle.fg_encode.specs.Encoder.{EncoderState, StandsAfter as HasTaken}
use Rattle.fg_encode.specs.Encoding.{encoding}
use Rattle.fg_encode.specs.Reading.{IsStreamReadFor}
use Rattle.fg_encode.specs.Stream.{IsCut, LeavesNothing, StreamEnding}
use Rattle.fg_encode.specs.StreamReader.{StreamState, StandsAfter}

-- The encoder has taken these payloads and can take another; or the stream has none left.
abbrev pub CanGoOn : StreamState → EncoderState → List (List ℕ) → Type 0
CanGoOn reader encoder payloads = HasTaken encoder payloads ⊎ ((reader.ended ≡ true) × (reader.held ≡ []))

-- The payloads that the reader has answered are encoded: the sink has gained a front of their trace since then, and the rest
-- of it is held. The reader has told no ending.
pub record IsUnderway (work : Encoding) (reader : StreamState) (first now before after : Option (List ℕ)) : Type 0 where
  pub payloads : List (List ℕ)
  pub stands : StandsAfter reader first now payloads
  pub untold : reader.kept ≡ None
  pub limit : reader.max ≤ 2 ^ 40
  pub packets : work.encoder.settings.packets ≡ reader.packets
  pub goes_on : CanGoOn reader work.encoder payloads
  pub sent : Sent before (trace_of (encoding work.encoder.settings payloads)) work.trace after

-- The stream was read so far.
abbrev pub IsReadTo : ℕ → Option StreamEnding → Option (List ℕ) → Option (List ℕ) → Type 0
IsReadTo max ending first now = IfSome first (λ bytes. IsStreamReadFor max ending bytes now)

-- No payload is answered yet, and nothing is held.
pub record IsNew (work : Encoding) (reader : StreamState) (first now : Option (List ℕ)) : Type 0 where
  pub stands : StandsAfter reader first now []
  pub read : IsReadTo reader.max None first now
  pub untold : reader.kept ≡ None
  pub limit : reader.max ≤ 2 ^ 40
  pub packets : work.encoder.settings.packets ≡ reader.packets
  pub taken : HasTaken work.encoder []
  pub trace : work.trace ≡ []

-- All payloads of the stream are encoded, and this is its ending, for which it was read.
pub record HasEncoded
    (work : Encoding) (reader : StreamState) (ending : StreamEnding) (first now before after : Option (List ℕ)) : Type 0 where
  pub payloads : List (List ℕ)
  pub of_input : IfSome first (λ bytes. IsCut work.encoder.settings.packets reader.max bytes payloads ending)
  pub read : IsReadTo reader.max (Some ending) first now
  pub at_end : LeavesNothing ending → IsAtEnd now
  pub sent : Sent before (trace_of (encoding work.encoder.settings payloads)) work.trace after

-- The whole trace is written, and the stream was read for its ending.
pub record IsEncoded
    (settings : Settings) (max : ℕ) (ending : StreamEnding) (first now before after : Option (List ℕ)) : Type 0 where
  pub encodes : Encodes settings max ending first before after
  pub read : IsReadTo max (Some ending) first now
  pub at_end : LeavesNothing ending → IsAtEnd now

-- What a fault leaves of an encoding: the stream was read no further than a byte past the limit, and the sink has gained a
-- prefix of the trace.
abbrev pub Breaks : Settings → ℕ → ReadTexts
Breaks settings max first now before after =
    EncodesPart settings max first before after × IsReadTo max None first now
