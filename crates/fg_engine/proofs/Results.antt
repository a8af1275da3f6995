-- Answers of calls that may fail.
use Rattle.std.proofs.Common.{◌≡◌, Result, Ok, Err, IfErr, sym, ◌∙◌, subst}
use Rattle.std.specs.Result.{IsErrAnd}

-- an `Err` that is passed on is of the same cause
pub same_cause : {T E : Type 0} (r : Result T E) (e cause : E) → IsErrAnd r (λ x. x ≡ e) → r ≡ Err cause → e ≡ cause
same_cause (Ok x) e cause f is = absurd f
same_cause (Err y) e cause f is = let same : y ≡ cause = cc in sym f ∙ same

-- what holds of an `Err` holds of it where it is passed on
pub passed_on : {T E : Type 0} (P : E → Type 0) (r : Result T E) (e : E) → IsErrAnd r (λ x. x ≡ e) → P e → IfErr r P
passed_on P (Ok x) e f holds = absurd f
passed_on P (Err y) e f holds = subst P (sym f) holds
