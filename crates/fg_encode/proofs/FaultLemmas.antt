-- How counts of faults are passed on.
use Rattle.std.proofs.Common.{◌≡◌, ℕ, List, [], ◌∷◌, Result, Ok, Err, subst, sym, arith}
use Rattle.std.specs.Prelude.{IsErrAnd}
use Rattle.fg_io.specs.declared.fault.Fault.{Fault}
use Rattle.fg_io.specs.declared.fault.Fault.TheVariants.{Read, Write}
use Rattle.fg_io.specs.Faults.{Counts, CountsFaults}

-- what only writes has read nothing
pub none_read : (R W : Type 0) (read read' written written' : ℕ) → read' ≡ read → CountsFaults R W [] ((written, written') ∷ []) → CountsFaults R W ((read, read') ∷ []) ((written, written') ∷ [])
none_read R W read read' written written' same h = record {
  read = λ r. absurd (h.read r);
  write = h.write;
  no_read = λ no. same;
  no_write = h.no_write;
  rise = omega (arith, same);
  sinks_rise = h.sinks_rise;
}

-- what a call failed with is answered
pub failed_as : {A : Type 0} (came : Result A Fault) (fault : Fault) (sources sinks : List (ℕ × ℕ)) → IsErrAnd came (λ f. f ≡ fault) → CountsFaults (fault ≡ Read) (fault ≡ Write) sources sinks → Counts came sources sinks
failed_as (Ok x) fault sources sinks is h = absurd is
failed_as (Err f) fault sources sinks is h = subst (λ (e : Fault). CountsFaults (e ≡ Read) (e ≡ Write) sources sinks) (sym is) h
