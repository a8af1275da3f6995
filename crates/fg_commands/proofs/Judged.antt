-- The answer of a command that judges a text of cases, as the program's.
use Rattle.std.proofs.Common.{◌≡◌, ℕ, Option, None, Some, IfSome, IfOk, OnErr, Result, Ok, Err, List, [], ◌∷◌, refl, sym, ap, subst, ◌∙◌, arith}
use Rattle.std.specs.Io.KnownBytes.{IsAtEnd}
use Rattle.fg_io.specs.declared.fault.Fault.{Fault}
use Rattle.fg_io.specs.declared.fault.Fault.TheVariants as fault
use Rattle.fg_io.specs.Faults.{Counts}
use Rattle.fg_io.specs.Laws.{NoneIsPart}
use Rattle.fg_check.specs.declared.walk.Checked.{Checked}
use Rattle.fg_check.specs.declared.walk.Checked.TheVariants as checked
use Rattle.fg_check.specs.Checked.{CheckEnding, Checks, ChecksPart, IsChecked, LeavesNothing, Tells}
use Rattle.fg_check.specs.Laws.{OneCheck, OneListOfAnswers, OneTold}
use Rattle.fg_check.specs.Reading.{IsCheckReadFor, answer_of}
use Rattle.fg_check.specs.Text.{AreAnswers}
use Rattle.fg_proof.specs.declared.case.Case.{Case}
use Rattle.fg_proof.specs.declared.judging.Answer.{Answer}
use Rattle.fg_commands.specs.declared.ended.Why.{Why}
use Rattle.fg_commands.specs.declared.ended.Why.TheVariants as why
use Rattle.fg_commands.specs.Checking.{EndsCases, IsCasesAnswer, checking}
use Rattle.fg_commands.specs.Ended.{IsFault}
use Rattle.fg_commands.specs.Endings.{why_of_came, why_of_checked}
use Rattle.fg_commands.specs.Filter.{FilterAnswered, filter}
use Rattle.fg_commands.proofs.Came.{Endings, HasTold, came_answered, came_lawful, ends_not, fault_is_no_end}
use Rattle.fg_commands.proofs.Lawful.{Lawful, none_wrong}

-- one thing is told of the bytes
one_checked : OneCheck → OneListOfAnswers → OneTold → (max : ℕ) (bytes : List ℕ) (c c' : Checked)
    (cases cases' : List Case) (end end' : CheckEnding) (answers answers' : List Answer)
    → IsChecked max bytes cases end → IsChecked max bytes cases' end' → AreAnswers cases answers → AreAnswers cases' answers'
    → Tells c end answers → Tells c' end' answers' → c ≡ c'
one_checked o a t max bytes c c' cases cases' end end' answers answers' h h' k k' l l' =
    let e = o max bytes cases cases' end end' h h' in
    let same = a cases' answers answers' (subst (λ x. AreAnswers x answers) e.0 k) k' in
    t end' answers' c c' (subst (λ x. Tells c end' x) same (subst (λ x. Tells c x answers) e.1 l)) l'

pub one_answer : OneCheck → OneListOfAnswers → OneTold → (max : ℕ) (bytes : List ℕ) (one other : Why)
    → IsCasesAnswer max bytes one → IsCasesAnswer max bytes other → one ≡ other
one_answer o a t max bytes one other h k =
    h.answer_is ∙ ap why_of_checked (one_checked o a t max bytes h.checked k.checked h.cases k.cases h.ending k.ending h.answers k.answers h.of_bytes k.of_bytes h.are k.are h.tells k.tells) ∙ sym k.answer_is

each : (c : Checked) → (IsFault (why_of_checked c) → ⊥) × (EndsCases (why_of_checked c) → LeavesNothing c)
each checked.Done = (λ fault. fault, λ h. tt)
each (checked.Unproved i) = (λ fault. fault, λ h. tt)
each (checked.NotCase n) = (λ fault. fault, ends_not why.Unproved (why.NotCase n) (λ e. let a = e in cc) (λ m e. let a = e in cc))
each (checked.TooLong n) = (λ fault. fault, ends_not why.Unproved (why.TooLong n) (λ e. let a = e in cc) (λ m e. let a = e in cc))

endings : Endings why_of_checked EndsCases LeavesNothing
endings = record { each = each; no_end = fault_is_no_end why.Unproved (λ n fault. fault) }

told : (came : Result Checked Fault) → HasTold came (answer_of came)
told (Ok c) = refl
told (Err f) = refl

-- the answer that is due is told
due_told : OneCheck → OneListOfAnswers → OneTold → (max : ℕ) (came : Result Checked Fault) (input written written' : Option (List ℕ))
    → IfOk came (λ c. Checks max c input written written')
    → IfOk came (λ c. IfSome input (λ bytes. (due : Why) → IsCasesAnswer max bytes due → why_of_checked c ≡ due))
due_told o a t max (Err f) input written written' h = tt
due_told o a t max (Ok c) None written written' h = tt
due_told o a t max (Ok c) (Some bytes) written written' h = λ due k.
    ap why_of_checked (one_checked o a t max bytes c k.checked h.cases k.cases h.ending k.ending h.answers k.answers h.of_input k.of_bytes h.are k.are h.tells k.tells) ∙ sym k.answer_is

pub answered : {S K : Type 0} {left : S → Option (List ℕ)} {input_faults : S → ℕ} {input input' : S}
    {written : K → Option (List ℕ)} {out_faults : K → ℕ} {out out' : K}
    → OneCheck → OneListOfAnswers → OneTold → (max : ℕ) (came : Result Checked Fault)
    → IfOk came (λ c. Checks max c (left input) (written out) (written out'))
    → IfOk came (λ c. LeavesNothing c → IsAtEnd (left input'))
    → IfSome (left input) (λ bytes. IsCheckReadFor max (answer_of came) bytes (left input'))
    → OnErr came (ChecksPart max (left input) (written out) (written out'))
    → Counts came ((input_faults input, input_faults input') ∷ []) ((out_faults out, out_faults out') ∷ [])
    → FilterAnswered (checking max) (why_of_came why_of_checked came) left input_faults input input' written out_faults out out'
answered o a t max came all leaves far left_part faults =
    came_answered why_of_checked (IsCasesAnswer max) (Checks max) (ChecksPart max) (IsCheckReadFor max) EndsCases (λ bytes. ⊥) LeavesNothing
    endings came (answer_of came) (told came) all (due_told o a t max came _ _ _ all) leaves far (none_wrong _ _) left_part faults

-- where nothing was judged, what is written is a part, as it was
none_told : NoneIsPart → (max : ℕ) (input written : Option (List ℕ)) → ChecksPart max input written written
none_told none max None written = tt
none_told none max (Some bytes) written = λ cases end text checked is. none written text

unread : (max : ℕ) (bytes : List ℕ) → IsCheckReadFor max None bytes (Some bytes)
unread max bytes = record { read = []; rest = bytes; now_is = refl; all = refl; reaches = tt; bounded = omega arith }

pub lawful : NoneIsPart → (max : ℕ) → Lawful (filter (checking max))
lawful none max =
    came_lawful why_of_checked (IsCasesAnswer max) (Checks max) (ChecksPart max) (IsCheckReadFor max) EndsCases (λ bytes. ⊥) (none_told none max) (unread max) (endings.no_end fault.Memory)
