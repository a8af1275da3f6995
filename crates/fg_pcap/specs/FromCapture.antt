-- The trace that is made of a capture, and how that ends: this project's own.
use Rattle.std.specs.Prelude.{◌≡◌, ◌+◌, ◌<◌, ◌≤◌, ◌⊎◌, ℕ, ⊤, Option, IfSome, List, [], length}
use Rattle.fg_io.specs.Texts.{Texts}
use Rattle.fg_io.specs.Sink.{Gains, GainsPart}
use Rattle.fg_trace.specs.Trace.{Record, trace_of}
use Rattle.fg_pcap.specs.declared.ending.CaptureEnding.{CaptureEnding}
use Rattle.fg_pcap.specs.declared.ending.CaptureEnding.TheVariants.{Ended, NotCapture, Cut, TooLong}
use Rattle.fg_pcap.specs.Capture.{IsRefused}
use Rattle.fg_pcap.specs.Frame.{CapturedTrace}

-- The endings after which nothing of the input is left.
abbrev pub LeavesNothing : CaptureEnding → Type 0
LeavesNothing Ended = ⊤
LeavesNothing (Cut n) = ⊤
LeavesNothing (NotCapture n) = ⊥
LeavesNothing (TooLong n) = ⊥

-- The bytes, under a limit on their number, come to these bytes of a trace and this ending: to none where the file header is
-- refused, and else to the trace of the capture's datagrams.
abbrev pub ComesTo : List ℕ → ℕ → List ℕ → CaptureEnding → Type 0
ComesTo bytes max trace end =
    (IsRefused bytes max end × (trace ≡ []))
    ⊎ ((records : List Record) × CapturedTrace bytes max records end × (trace ≡ trace_of records))

-- The sink has gained what the input comes to, with this ending.
pub record Converts (max : ℕ) (end : CaptureEnding) (input written written' : Option (List ℕ)) : Type 0 where
  pub trace : List ℕ
  pub of_input : IfSome input (λ bytes. ComesTo bytes max trace end)
  pub gained : Gains written trace written'

-- The sink has gained a prefix of it.
abbrev pub ConvertsPart : ℕ → Texts
ConvertsPart max input written written' =
    IfSome input (λ bytes. (trace : List ℕ) (end : CaptureEnding)
    → ComesTo bytes max trace end → GainsPart written trace written')

-- The most bytes that are held of the input at once.
abbrev pub most_held : ℕ
most_held = 528448

-- A capture was read as far as this ending needs: these bytes were read, and these are left. To its end; past the limit; to
-- the place that is wrong, or to the end where there is none; and for a file header no more than is held.
abbrev pub ReachesFor : ℕ → CaptureEnding → List ℕ → List ℕ → Type 0
ReachesFor max Ended read rest = rest ≡ []
ReachesFor max (Cut n) read rest = rest ≡ []
ReachesFor max (TooLong n) read rest = max < length read
ReachesFor max (NotCapture n) read rest =
    ((n < length read) ⊎ (rest ≡ [])) × (length read ≤ n + most_held)
