-- What a survey of a trace comes to. This project's own.
use Rattle.std.specs.Prelude.{◌≡◌, ℕ, Bool, List, [], Option, IfSome}
use Rattle.fg_io.specs.Sink.{Gains, GainsPart}
use Rattle.fg_trace.specs.declared.step.Finish.{Finish}
use Rattle.fg_trace.specs.Finish.{finish_of}
use Rattle.fg_trace.specs.Trace.{Record, Ending, Ended, NotTrace, Cut, TooLong, IsTrace}
use Rattle.fg_report.specs.declared.tail.Tail.TheVariants as tail
use Rattle.fg_survey.specs.Heard.{Heard, AreHeard}
use Rattle.fg_survey.specs.Text.{survey_text}

-- The text where these were heard. What is no trace has none.
abbrev pub text_of : Bool → List Heard → Ending → List ℕ
text_of json heard Ended = survey_text json heard tail.Ended
text_of json heard (Cut place) = survey_text json heard (tail.Cut place)
text_of json heard (TooLong place) = survey_text json heard (tail.TooLong place)
text_of json heard (NotTrace place) = []

-- The records of a trace that ends so have this text: each datagram is read, and the text is that of what was heard.
pub record IsText (json : Bool) (records : List Record) (end : Ending) (text : List ℕ) : Type 0 where
  pub heard : List Heard
  pub read : AreHeard heard records
  pub text_is : text ≡ text_of json heard end

-- The sink has gained the text of the input's trace, and the answer is that of its ending.
pub record Surveys
    (json : Bool) (max : ℕ) (answer : Finish) (input written written' : Option (List ℕ)) : Type 0 where
  pub records : List Record
  pub end : Ending
  pub text : List ℕ
  pub answer_is : answer ≡ finish_of end
  pub of_input : IfSome input (λ bytes. IsTrace bytes max records end)
  pub is_text : IsText json records end text
  pub gained : Gains written text written'

-- The sink has gained a prefix of that text.
abbrev pub SurveysPart : Bool → ℕ → Option (List ℕ) → Option (List ℕ) → Option (List ℕ) → Type 0
SurveysPart json max input written written' =
    IfSome input (λ bytes. (records : List Record) (end : Ending) (text : List ℕ)
    → IsTrace bytes max records end → IsText json records end text → GainsPart written text written')
