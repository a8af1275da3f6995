-- What the checking of a text of cases comes to: this project's own.
use Rattle.std.specs.Prelude.{◌≡◌, ◌≢◌, ◌⊎◌, ◌+◌, ◌<◌, ◌≤◌, ℕ, ⊤, Option, None, Some, IfSome, List, [], length, take, All}
use Rattle.fg_io.specs.Texts.{Texts}
use Rattle.fg_io.specs.Sink.{Gains, GainsPart}
use Rattle.fg_proof.specs.declared.case.Case.{Case}
use Rattle.fg_proof.specs.declared.judging.Answer.{Answer}
use Rattle.fg_proof.specs.Text.{IsWritable, cases_text}
use Rattle.fg_check.specs.declared.walk.Checked.{Checked}
use Rattle.fg_check.specs.declared.walk.Checked.TheVariants as told
use Rattle.fg_check.specs.Split.{AreWhole, Fit, IsSplit, ended, texts_of}
use Rattle.fg_check.specs.Text.{AreAnswers, IsFirstUnproved, IsVerdicts, verdicts_from}

-- How a text ends: with its last case; at a line that doesn't fit; or at a line that isn't whole within the limit.
pub data CheckEnding : Type 0 where
  Whole : CheckEnding
  NotCase : ℕ → CheckEnding
  TooLong : ℕ → CheckEnding

-- Line n, counted from 0, is the first that doesn't fit.
pub record IsFirstUnfit (lines : List (List ℕ)) (n : ℕ) : Type 0 where
  pub there : n < length lines
  pub fit : Fit (take n lines)
  pub unfit : ¬ Fit (take (n + 1) lines)

-- All lines fit, but the text ends early, and its last line is number n: it has no line feed; or it has one, and doesn't end a
-- case.
pub record EndsEarly (lines : List (List ℕ)) (rest : List ℕ) (n : ℕ) : Type 0 where
  pub fit : Fit lines
  pub last :
      ((rest ≢ []) × (n ≡ length lines))
      ⊎ ((rest ≡ []) × (n + 1 ≡ length lines) × ((cases : List Case) → All IsWritable cases → lines ≢ texts_of cases))

-- Line n is the first that doesn't fit, of those that are whole within the first `max` bytes. At the end of a text that has no
-- more bytes, a line without a line feed doesn't fit, and neither does the last line of a case that isn't ended. These cases
-- are whole before line n.
pub record IsNotCase (max : ℕ) (bytes : List ℕ) (cases : List Case) (n : ℕ) : Type 0 where
  pub lines : List (List ℕ)
  pub rest : List ℕ
  pub split : IsSplit (take max bytes) lines rest
  pub first : IsFirstUnfit lines n ⊎ ((length bytes ≤ max) × EndsEarly lines rest n)
  pub whole : AreWhole (take n lines) cases

-- There are more than `max` bytes, and all lines that are whole within the first `max` fit. The line that isn't begins at byte
-- n, counted from 0. These cases are whole before it.
pub record IsTooLong (max : ℕ) (bytes : List ℕ) (cases : List Case) (n : ℕ) : Type 0 where
  pub longer : max < length bytes
  pub lines : List (List ℕ)
  pub rest : List ℕ
  pub split : IsSplit (take max bytes) lines rest
  pub fit : Fit lines
  pub place : n ≡ length (ended lines)
  pub whole : AreWhole lines cases

-- The bytes have these cases, and then they end so. With `Whole` they are the texts of the cases, and no more than `max`.
abbrev pub IsChecked : ℕ → List ℕ → List Case → CheckEnding → Type 0
IsChecked max bytes cases Whole = (length bytes ≤ max) × All IsWritable cases × (bytes ≡ cases_text cases)
IsChecked max bytes cases (NotCase n) = IsNotCase max bytes cases n
IsChecked max bytes cases (TooLong n) = IsTooLong max bytes cases n

-- What is told of bytes that end so, with these answers to their cases. That a line doesn't fit, or isn't whole within the limit,
-- goes before the answers.
abbrev pub Tells : Checked → CheckEnding → List Answer → Type 0
Tells told.Done ending answers = (ending ≡ Whole) × IsFirstUnproved answers None
Tells (told.Unproved i) ending answers = (ending ≡ Whole) × IsFirstUnproved answers (Some i)
Tells (told.NotCase n) ending answers = ending ≡ NotCase n
Tells (told.TooLong n) ending answers = ending ≡ TooLong n

-- The cases of the input are judged, and this is told of it: the sink has gained a line for each.
pub record Checks (max : ℕ) (checked : Checked) (input written written' : Option (List ℕ)) : Type 0 where
  pub cases : List Case
  pub ending : CheckEnding
  pub answers : List Answer
  pub of_input : IfSome input (λ bytes. IsChecked max bytes cases ending)
  pub are : AreAnswers cases answers
  pub tells : Tells checked ending answers
  pub gained : Gains written (verdicts_from 0 answers) written'

-- Whatever cases, ending and answers the input has, this is told of them.
abbrev pub TellsExactly : ℕ → Option (List ℕ) → Checked → Type 0
TellsExactly max input checked =
    IfSome input (λ bytes. (cases : List Case) (ending : CheckEnding) (answers : List Answer)
    → IsChecked max bytes cases ending → AreAnswers cases answers → Tells checked ending answers)

-- The sink has gained a prefix of those lines.
abbrev pub ChecksPart : ℕ → Texts
ChecksPart max input written written' =
    IfSome input (λ bytes. (cases : List Case) (ending : CheckEnding) (text : List ℕ)
    → IsChecked max bytes cases ending → IsVerdicts cases text → GainsPart written text written')

-- After such an answer nothing of the input is left.
abbrev pub LeavesNothing : Checked → Type 0
LeavesNothing told.Done = ⊤
LeavesNothing (told.Unproved i) = ⊤
LeavesNothing (told.NotCase n) = ⊥
LeavesNothing (told.TooLong n) = ⊥
