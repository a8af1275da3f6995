-- A text of cases that are all proved is accepted.
use Rattle.std.proofs.Common.{◌≡◌, ℕ, zero, suc, List, [], ◌∷◌, map, refl, subst}
use Rattle.std.specs.List.{All}
use Rattle.std.proofs.lemmas.List.Elements.{All-head, All-tail}
use Rattle.fg_io.specs.Sink.{Gains}
use Rattle.fg_proof.specs.declared.case.Case.{Case}
use Rattle.fg_proof.specs.declared.judging.Answer.{Answer}
use Rattle.fg_proof.specs.declared.judging.Answer.TheVariants.{Yes}
use Rattle.fg_proof.specs.Judgement.{IsAnswer}
use Rattle.fg_proof.specs.Text.{cases_text}
use Rattle.fg_check.specs.declared.walk.Checked.TheVariants as told
use Rattle.fg_check.specs.Accepted.{ProvedTextsAreAccepted}
use Rattle.fg_check.specs.Checked.{CheckEnding, IsChecked, Tells, Whole}
use Rattle.fg_check.specs.Laws.{OneCheck, OneListOfAnswers, OneTold}
use Rattle.fg_check.specs.Text.{AreAnswers, IsUnproved, verdicts_from}

abbrev yeses : List Case → List Answer
yeses cases = map (λ case. Yes) cases

yes_answers : (cases : List Case) → All (λ case. IsAnswer case Yes) cases → AreAnswers cases (yeses cases)
yes_answers [] all = tt
yes_answers (case ∷ cases) all =
    (All-head (λ case. IsAnswer case Yes) case cases all, yes_answers cases (All-tail (λ case. IsAnswer case Yes) case cases all))

none_unproved : (cases : List Case) (i : ℕ) → ¬ IsUnproved (yeses cases) i
none_unproved [] i unproved = unproved
none_unproved (case ∷ cases) zero unproved = unproved refl
none_unproved (case ∷ cases) (suc i) unproved = none_unproved cases i unproved

module _ (one_check : OneCheck) (one_answers : OneListOfAnswers) (one_told : OneTold) where
  pub proved_texts_are_accepted : ProvedTextsAreAccepted
  proved_texts_are_accepted max cases writable proved few =
      let is : IsChecked max (cases_text cases) cases Whole = (few, writable, refl) in
      let done : Tells told.Done Whole (yeses cases) = (refl, none_unproved cases) in
      record {
        checked = is;
        answers = yes_answers cases proved;
        done = done;
        only = λ checked written written' checks.
            (let same = one_check max (cases_text cases) checks.cases cases checks.ending Whole checks.of_input is in
            let answers : checks.answers ≡ yeses cases = one_answers cases checks.answers (yeses cases)
            (subst (λ (cs : List Case). AreAnswers cs checks.answers) same.0 checks.are) (yes_answers cases proved) in
            let tells : Tells checked Whole (yeses cases) = subst (λ (given : List Answer). Tells checked Whole given) answers
            (subst (λ (e : CheckEnding). Tells checked e checks.answers) same.1 checks.tells) in (
              one_told Whole (yeses cases) checked told.Done tells done,
              subst (λ (given : List Answer). Gains written (verdicts_from 0 given) written') answers checks.gained,
            ));
      }
