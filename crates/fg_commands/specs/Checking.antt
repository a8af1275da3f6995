-- What `check` is for: this project's own.
use Rattle.std.specs.Prelude.{◌≡◌, ℕ, List, Option}
use Rattle.fg_proof.specs.declared.case.Case.{Case}
use Rattle.fg_proof.specs.declared.judging.Answer.{Answer}
use Rattle.fg_check.specs.declared.walk.Checked.{Checked}
use Rattle.fg_check.specs.Checked.{CheckEnding, Checks, ChecksPart, IsChecked, Tells}
use Rattle.fg_check.specs.Reading.{IsCheckReadFor}
use Rattle.fg_check.specs.Text.{AreAnswers}
use Rattle.fg_commands.specs.declared.ended.Why.{Why}
use Rattle.fg_commands.specs.declared.ended.Why.TheVariants as why
use Rattle.fg_commands.specs.Endings.{IsDoneOr, ReadsAs, why_of_checked}
use Rattle.fg_commands.specs.Filter.{Filter, of_ends}

-- The answer is that to the text of cases in these bytes.
pub record IsCasesAnswer (max : ℕ) (bytes : List ℕ) (answer : Why) : Type 0 where
  pub cases : List Case
  pub ending : CheckEnding
  pub answers : List Answer
  pub checked : Checked
  pub of_bytes : IsChecked max bytes cases ending
  pub are : AreAnswers cases answers
  pub tells : Tells checked ending answers
  pub answer_is : answer ≡ why_of_checked checked

-- After this answer nothing of a text of cases is left to read.
abbrev pub EndsCases : Why → Type 0
EndsCases = IsDoneOr why.Unproved

-- The text of cases in these bytes was read as far as the answer needs; and after a fault at most a byte past the limit. This is
-- left.
abbrev pub ReadsCases : ℕ → Why → List ℕ → Option (List ℕ) → Type 0
ReadsCases max = ReadsAs why_of_checked (IsCheckReadFor max)

-- The cases in the text are judged, and the answer is that to it.
abbrev pub checking : ℕ → Filter
checking max = of_ends why_of_checked (IsCasesAnswer max) (Checks max) (ChecksPart max) (ReadsCases max) EndsCases (λ bytes. ⊥)
