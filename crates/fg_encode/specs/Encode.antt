-- What an encoding of a stream comes to. This project's own.
use Rattle.std.specs.Prelude.{ℕ, List, Option, None, Some, IfSome, Result, Ok, Err}
use Rattle.fg_io.specs.declared.fault.Fault.{Fault}
use Rattle.fg_io.specs.Sink.{Gains, GainsPart}
use Rattle.fg_shape.specs.declared.encoding.Settings.{Settings}
use Rattle.fg_trace.specs.Trace.{trace_of}
use Rattle.fg_encode.specs.Encoding.{encoding}
use Rattle.fg_encode.specs.Stream.{IsCut, StreamEnding}

-- The sink has gained the trace of the encoding of the stream's payloads, those before its ending, which is this one.
pub record Encodes
    (settings : Settings) (max : ℕ) (ending : StreamEnding) (input written written' : Option (List ℕ)) : Type 0 where
  pub payloads : List (List ℕ)
  pub of_input : IfSome input (λ bytes. IsCut settings.packets max bytes payloads ending)
  pub gained : Gains written (trace_of (encoding settings payloads)) written'

-- The sink has gained a prefix of that trace.
abbrev pub EncodesPart : Settings → ℕ → Option (List ℕ) → Option (List ℕ) → Option (List ℕ) → Type 0
EncodesPart settings max input written written' =
    IfSome input (λ bytes. (payloads : List (List ℕ)) (ending : StreamEnding)
    → IsCut settings.packets max bytes payloads ending → GainsPart written (trace_of (encoding settings payloads)) written')

-- The ending that an encoding answers, where no fault ends it.
abbrev pub ending_of : Result StreamEnding Fault → Option StreamEnding
ending_of (Ok ending) = Some ending
ending_of (Err fault) = None
