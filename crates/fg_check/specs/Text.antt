-- The text that a checking writes: a line for each case. This project's own.
use Rattle.std.specs.Prelude.{◌≡◌, ◌≢◌, ◌+◌, ◌++◌, ℕ, Option, None, Some, List, [], ◌∷◌, codes, slice_get, All, IsSomeAnd}
use Rattle.std.specs.Fmt.{decimal}
use Rattle.std.specs.List.{AllZip}
use Rattle.fg_peel.specs.Verdict.{IsLeast}
use Rattle.fg_proof.specs.declared.case.Case.{Case}
use Rattle.fg_proof.specs.declared.judging.Answer.{Answer}
use Rattle.fg_proof.specs.declared.judging.Answer.TheVariants.{Yes, Disorder, Known, Alone}
use Rattle.fg_proof.specs.Judgement.{IsAnswer}

-- What a line says of a case that is judged so.
abbrev pub verdict : Answer → List ℕ
verdict Yes = codes "yes"
verdict Disorder = codes "disorder"
verdict (Known position) = codes "known " ++ decimal position
verdict (Alone number) = codes "alone " ++ decimal number

-- The line of case number i, counted from 0.
unfoldable pub verdict_line : ℕ → Answer → List ℕ
verdict_line i answer = codes "case " ++ decimal i ++ codes " " ++ verdict answer ++ codes "\n"

-- The lines of cases from number i on.
abbrev pub verdicts_from : ℕ → List Answer → List ℕ
verdicts_from i [] = []
verdicts_from i (answer ∷ answers) = verdict_line i answer ++ verdicts_from (i + 1) answers

-- Each case has this answer.
abbrev pub AreAnswers : List Case → List Answer → Type 0
AreAnswers cases answers = AllZip IsAnswer cases answers

-- The text of these cases, each judged.
pub record IsVerdicts (cases : List Case) (text : List ℕ) : Type 0 where
  pub answers : List Answer
  pub are : AreAnswers cases answers
  pub text_is : text ≡ verdicts_from 0 answers

-- The answer of case number i isn't `Yes`.
abbrev pub IsUnproved : List Answer → ℕ → Type 0
IsUnproved answers i = IsSomeAnd (slice_get answers i) (λ answer. answer ≢ Yes)

-- The first such case, or that there is none.
abbrev pub IsFirstUnproved : List Answer → Option ℕ → Type 0
IsFirstUnproved answers None = (i : ℕ) → ¬ IsUnproved answers i
IsFirstUnproved answers (Some i) = IsLeast (IsUnproved answers) i
