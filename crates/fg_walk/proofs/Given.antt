-- What is told by what no call changes.
use Rattle.std.proofs.Common.{◌≡◌, ℕ, Option, Result, Ok, Err, IfOk, List, subst}
use Rattle.fg_io.specs.declared.fault.Fault.{Fault}
use Rattle.fg_trace.specs.declared.step.Finish.{Finish}
use Rattle.fg_trace.specs.Trace.{Record, Ending}
use Rattle.fg_walk.specs.Walk.{Walked}

-- it is the same by what was given
pub walked_by :
    {A G : Type 0} (Whole : G → List Record → Ending → Option (List ℕ) → Option (List ℕ) → Type 0) (given_of : A → G) (telling : A) (given : G) (max : ℕ) (input before after : Option (List ℕ)) (came : Result Finish Fault)
    → given_of telling ≡ given → IfOk came (λ finish. Walked (λ (t : A). Whole (given_of t)) telling max finish input before after) → IfOk came (λ finish. Walked Whole given max finish input before after)
walked_by Whole given_of telling given max input before after (Ok finish) same h = record {
  records = h.records;
  end = h.end;
  answer_is = h.answer_is;
  of_input = h.of_input;
  told = subst (λ g. Whole g h.records h.end before after) same h.told;
}
walked_by Whole given_of telling given max input before after (Err fault) same h = tt
