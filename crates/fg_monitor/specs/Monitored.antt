-- What the monitoring of a stream comes to: this project's own. The stream is cut into packets of 188 bytes (ISO/IEC 13818-1).
use Rattle.std.specs.Prelude.{ℕ, List, Option, IfSome}
use Rattle.fg_io.specs.Sink.{Gains, GainsPart}
use Rattle.fg_io.specs.Texts.{Texts}
use Rattle.fg_encode.specs.Stream.{IsCut, StreamEnding}
use Rattle.fg_monitor.specs.Text.{IsText}

-- The bytes are a stream of these packets, which ends so: each packet is a payload of its own.
abbrev pub IsStreamOf : ℕ → List ℕ → List (List ℕ) → StreamEnding → Type 0
IsStreamOf max bytes packets ending = IsCut 1 max bytes packets ending

-- The sink has gained the text of the stream's packets, those before its ending, which is this one.
pub record Monitors (max : ℕ) (ending : StreamEnding) (input written written' : Option (List ℕ)) : Type 0 where
  pub packets : List (List ℕ)
  pub text : List ℕ
  pub of_input : IfSome input (λ bytes. IsStreamOf max bytes packets ending)
  pub is_text : IsText packets ending text
  pub gained : Gains written text written'

-- The sink has gained a prefix of that text.
abbrev pub MonitorsPart : ℕ → Texts
MonitorsPart max input written written' =
    IfSome input (λ bytes. (packets : List (List ℕ)) (ending : StreamEnding) (text : List ℕ)
    → IsStreamOf max bytes packets ending → IsText packets ending text → GainsPart written text written')
