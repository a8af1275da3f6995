-- Laws of the traces of thinned encodings.
use Rattle.std.specs.Prelude.{◌≤◌, ◌^◌, ℕ, Bool, List}
use Rattle.fg_shape.specs.declared.encoding.Losses.{Losses}
use Rattle.fg_shape.specs.declared.encoding.Settings.{Settings}
use Rattle.fg_trace.specs.Trace.{IsTrace, Ended, trace_of}
use Rattle.fg_shape.specs.Settings.{CanEncode}
use Rattle.fg_encode.specs.Payloads.{ArePayloads, total_length}
use Rattle.fg_thin.specs.Payloads.{payloads_of}
use Rattle.fg_thin.specs.Thinned.{is_lost, thinned}
use Rattle.fg_thin.specs.ThinnedSource.{thinned_trace}

-- What is sent of payloads of at most 2^40 bytes in all is read as a trace of these records, whatever was lost.
abbrev pub ThinnedIsTrace : Type 0
ThinnedIsTrace =
    (settings : Settings) (lost : ℕ → Bool) (payloads : List (List ℕ))
    → CanEncode settings → ArePayloads settings.packets payloads → total_length payloads ≤ 2 ^ 40
    → IsTrace (trace_of (thinned settings lost payloads)) (2 ^ 42) (thinned settings lost payloads) Ended

-- And so is what is sent of a stream.
abbrev pub StreamIsTrace : Type 0
StreamIsTrace =
    (settings : Settings) (losses : Losses) (max : ℕ) (bytes : List ℕ)
    → CanEncode settings → max ≤ 2 ^ 40
    → IsTrace (thinned_trace settings losses max bytes) (2 ^ 42)
    (thinned settings (is_lost losses) (payloads_of settings.packets max bytes)) Ended
