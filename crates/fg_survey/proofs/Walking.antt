-- What a survey comes to, once all records are kept.
use Rattle.std.proofs.Common.{◌≡◌, ◌≢◌, ℕ, Bool, Option, Some, None, IfSome, List, [], refl, ap, ◌∙◌, subst}
use Rattle.fg_io.specs.Sink.{Gains, GainsPart}
use Rattle.fg_io.proofs.SinkLemmas.{Gains-nil}
use Rattle.fg_report.specs.declared.tail.Tail.{Tail}
use Rattle.fg_trace.specs.declared.step.Finish.{Finish}
use Rattle.fg_trace.specs.declared.step.Finish.TheVariants as finish
use Rattle.fg_trace.specs.Finish.{finish_of}
use Rattle.fg_trace.specs.Laws.{OneTrace}
use Rattle.fg_trace.specs.Trace.{Record, Ending, Ended, NotTrace, Cut, TooLong, IsTrace}
use Rattle.fg_walk.specs.Walk.{Walked}
use Rattle.fg_survey.specs.declared.sheet.Sheet.{Sheet}
use Rattle.fg_survey.specs.Heard.{Heard}
use Rattle.fg_survey.specs.Laws.{OneText}
use Rattle.fg_survey.specs.Steps.{HasKept, IsSheet, IsTailOf}
use Rattle.fg_survey.specs.Survey.{IsText, Surveys, SurveysPart, text_of}
use Rattle.fg_survey.specs.Text.{survey_text}

-- Where nothing is written

-- nothing is a part
pub none_is_part : (json : Bool) (max : ℕ) (first written : Option (List ℕ)) → SurveysPart json max first written written
none_is_part json max None written = tt
none_is_part json max (Some bytes) written = λ records end text trace is. ([], (text, refl), Gains-nil written)

-- The records are kept, and this is the answer to their trace

abbrev HasWalked : {A : Type 0} → (A → Sheet) → A → ℕ → Finish → Option (List ℕ) → Type 0
HasWalked {A} sheet_of work max answer first = Walked (λ (w : A) records end before after. HasKept (sheet_of w) records) work max answer first None None

-- Its text is written

abbrev NoRefusal : Finish → Type 0
NoRefusal answer = (place : ℕ) → answer ≢ finish.NotTrace place

text_by : (json : Bool) (heard : List Heard) (answer : Finish) (told : Tail) (end : Ending) → answer ≡ finish_of end → NoRefusal answer → IsTailOf answer told → survey_text json heard told ≡ text_of json heard end
text_by json heard answer told Ended is some h = ap (survey_text json heard) (subst (λ (a : Finish). IsTailOf a told) is h)
text_by json heard answer told (Cut place) is some h = ap (survey_text json heard) (subst (λ (a : Finish). IsTailOf a told) is h)
text_by json heard answer told (TooLong place) is some h = ap (survey_text json heard) (subst (λ (a : Finish). IsTailOf a told) is h)
text_by json heard answer told (NotTrace place) is some h = absurd (some place is)

its_text : (json : Bool) (answer : Finish) (told : Tail) (sheet : Sheet) (records : List Record) (end : Ending) → answer ≡ finish_of end → NoRefusal answer → IsTailOf answer told
    → (kept : IsSheet sheet records) → IsText json records end (survey_text json kept.heard told)
its_text json answer told sheet records end is some tail kept = record { heard = kept.heard; read = kept.read; text_is = text_by json kept.heard answer told end is some tail }

pub surveys : {A : Type 0} (sheet_of : A → Sheet) (work : A) (json : Bool) (max : ℕ) (answer : Finish) (told : Tail) (first before after : Option (List ℕ))
    → HasWalked sheet_of work max answer first → NoRefusal answer → IsTailOf answer told
    → ((records : List Record) (kept : IsSheet (sheet_of work) records) → Gains before (survey_text json kept.heard told) after) → Surveys json max answer first before after
surveys sheet_of work json max answer told first before after h some tail gained = record {
  records = h.records;
  end = h.end;
  text = survey_text json h.told.kept.heard told;
  answer_is = h.answer_is;
  of_input = h.of_input;
  is_text = its_text json answer told (sheet_of work) h.records h.end h.answer_is some tail h.told.kept;
  gained = gained h.records h.told.kept;
}

pub surveys_part : {A : Type 0} (sheet_of : A → Sheet) (work : A) → OneTrace → OneText → (json : Bool) (max : ℕ) (answer : Finish) (told : Tail) (first before after : Option (List ℕ))
    → HasWalked sheet_of work max answer first → NoRefusal answer → IsTailOf answer told
    → ((records : List Record) (kept : IsSheet (sheet_of work) records) → GainsPart before (survey_text json kept.heard told) after) → SurveysPart json max first before after
surveys_part sheet_of work trace one json max answer told None before after h some tail part = tt
surveys_part sheet_of work trace one json max answer told (Some bytes) before after h some tail part = λ records end other is_trace other_is.
    let same = trace bytes max h.records records h.end end h.of_input is_trace in
    let own : IsText json h.records h.end (survey_text json h.told.kept.heard told) = its_text json answer told (sheet_of work) h.records h.end h.answer_is some tail h.told.kept in
    let texts : survey_text json h.told.kept.heard told ≡ other =
    one json records end (survey_text json h.told.kept.heard told) other (subst (λ (e : Ending). IsText json records e (survey_text json h.told.kept.heard told)) same.1 (subst (λ (rs : List Record). IsText json rs h.end (survey_text json h.told.kept.heard told)) same.0 own)) other_is in
    subst (λ t. GainsPart before t after) texts (part h.records h.told.kept)

-- and then the input is a trace
pub no_refusal : {A : Type 0} (sheet_of : A → Sheet) (work : A) → OneTrace → (max : ℕ) (answer : Finish) (first : Option (List ℕ)) (P : Type 0)
    → HasWalked sheet_of work max answer first → NoRefusal answer → IfSome first (λ bytes. (place : ℕ) → IsTrace bytes max [] (NotTrace place) → P)
no_refusal sheet_of work trace max answer None P h some = tt
no_refusal sheet_of work trace max answer (Some bytes) P h some = λ place none.
    absurd (some place (h.answer_is ∙ ap finish_of (trace bytes max h.records [] h.end (NotTrace place) h.of_input none).1))
