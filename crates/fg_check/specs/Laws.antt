-- What shows that the definitions of a checking are right.
use Rattle.std.specs.Prelude.{◌≡◌, ℕ, List}
use Rattle.fg_proof.specs.declared.case.Case.{Case}
use Rattle.fg_proof.specs.declared.judging.Answer.{Answer}
use Rattle.fg_check.specs.declared.walk.Checked.{Checked}
use Rattle.fg_check.specs.Checked.{CheckEnding, IsChecked, Tells}
use Rattle.fg_check.specs.Text.{AreAnswers, IsVerdicts}

-- Bytes have one list of cases, and one ending.
abbrev pub OneCheck : Type 0
OneCheck =
    (max : ℕ) (bytes : List ℕ) (one other : List Case) (end end' : CheckEnding)
    → IsChecked max bytes one end → IsChecked max bytes other end' → (one ≡ other) × (end ≡ end')

-- Cases have one list of answers,
abbrev pub OneListOfAnswers : Type 0
OneListOfAnswers =
    (cases : List Case) (one other : List Answer) → AreAnswers cases one → AreAnswers cases other → one ≡ other

-- and one text.
abbrev pub OneText : Type 0
OneText = (cases : List Case) (one other : List ℕ) → IsVerdicts cases one → IsVerdicts cases other → one ≡ other

-- One thing is told of an ending and answers.
abbrev pub OneTold : Type 0
OneTold = (ending : CheckEnding) (answers : List Answer) (one other : Checked) → Tells one ending answers → Tells other ending answers → one ≡ other
