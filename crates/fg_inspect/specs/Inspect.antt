-- What an inspection of a trace comes to. This project's own.
use Rattle.std.specs.Prelude.{◌≡◌, ℕ, List, Option, IfSome}
use Rattle.fg_io.specs.Sink.{Gains, GainsPart}
use Rattle.fg_trace.specs.declared.step.Finish.{Finish}
use Rattle.fg_trace.specs.Finish.{finish_of}
use Rattle.fg_trace.specs.Trace.{Record, Ending, IsTrace}
use Rattle.fg_inspect.specs.Text.{IsText}

-- The sink has gained the text of all records of the input's trace, and the answer is that of its ending. What is no trace
-- has no records, and their text is empty.
pub record Tells
    (flows : List ℕ) (max : ℕ) (answer : Finish) (input written written' : Option (List ℕ)) : Type 0 where
  pub records : List Record
  pub end : Ending
  pub text : List ℕ
  pub answer_is : answer ≡ finish_of end
  pub of_input : IfSome input (λ bytes. IsTrace bytes max records end)
  pub is_text : IsText flows records text
  pub gained : Gains written text written'

-- The sink has gained a prefix of that text.
abbrev pub TellsPart : List ℕ → ℕ → Option (List ℕ) → Option (List ℕ) → Option (List ℕ) → Type 0
TellsPart flows max input written written' =
    IfSome input (λ bytes. (records : List Record) (end : Ending) (text : List ℕ)
    → IsTrace bytes max records end → IsText flows records text → GainsPart written text written')
