-- A text of cases that are all proved is accepted.
use Rattle.std.specs.Prelude.{◌≡◌, ◌≤◌, ℕ, Option, Some, List, length, map, All}
use Rattle.fg_io.specs.Sink.{Gains}
use Rattle.fg_proof.specs.declared.case.Case.{Case}
use Rattle.fg_proof.specs.declared.judging.Answer.TheVariants.{Yes}
use Rattle.fg_proof.specs.Judgement.{IsAnswer}
use Rattle.fg_proof.specs.Text.{IsWritable, cases_text}
use Rattle.fg_check.specs.declared.walk.Checked.{Checked}
use Rattle.fg_check.specs.declared.walk.Checked.TheVariants as told
use Rattle.fg_check.specs.Checked.{Checks, IsChecked, Tells, Whole}
use Rattle.fg_check.specs.Text.{AreAnswers, verdicts_from}

-- The lines that tell `yes` of each of these cases.
abbrev pub all_yes : List Case → List ℕ
all_yes cases = verdicts_from 0 (map (λ case. Yes) cases)

-- The text of these cases, under a limit on its bytes, is checked to its end, each is answered `Yes`, and that all are is told.
-- Whatever a check tells of it and writes, it tells that, and writes a `yes` for each.
pub record IsAccepted (max : ℕ) (cases : List Case) : Type 0 where
  pub checked : IsChecked max (cases_text cases) cases Whole
  pub answers : AreAnswers cases (map (λ case. Yes) cases)
  pub done : Tells told.Done Whole (map (λ case. Yes) cases)
  pub only :
      (checked : Checked) (written written' : Option (List ℕ)) → Checks max checked (Some (cases_text cases)) written written'
      → (checked ≡ told.Done) × Gains written (all_yes cases) written'

-- That is so of cases that have a text, which is no longer than the limit, and are judged `Yes`.
abbrev pub ProvedTextsAreAccepted : Type 0
ProvedTextsAreAccepted =
    (max : ℕ) (cases : List Case) → All IsWritable cases → All (λ case. IsAnswer case Yes) cases
    → length (cases_text cases) ≤ max → IsAccepted max cases
