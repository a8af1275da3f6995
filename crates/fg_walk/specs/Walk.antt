-- What a walk over a trace comes to, whatever is told of its records. This project's own.
use Rattle.std.specs.Prelude.{◌≡◌, ℕ, ⊤, List, Option, IfSome}
use Rattle.fg_trace.specs.declared.step.Finish.{Finish}
use Rattle.fg_trace.specs.declared.step.Finish.TheVariants as finish
use Rattle.fg_trace.specs.Finish.{finish_of}
use Rattle.fg_trace.specs.Trace.{Record, Ending, IsTrace}

-- The answer is that of the ending of the input's trace, and all that is told of its records is gained, of which `Whole` says
-- what it is. What is no trace has no records.
pub record Walked
    {A : Type 0} (Whole : A → List Record → Ending → Option (List ℕ) → Option (List ℕ) → Type 0) (telling : A)
    (max : ℕ) (answer : Finish) (input before after : Option (List ℕ)) : Type 0 where
  pub records : List Record
  pub end : Ending
  pub answer_is : answer ≡ finish_of end
  pub of_input : IfSome input (λ bytes. IsTrace bytes max records end)
  pub told : Whole telling records end before after

-- A part of what is told of the records of the input's trace is gained.
abbrev pub WalkedPart : {G : Type 0} → (G → List Record → Option (List ℕ) → Option (List ℕ) → Type 0) → G → ℕ → Option (List ℕ) → Option (List ℕ) → Option (List ℕ) → Type 0
WalkedPart Part given max input before after = IfSome input (λ bytes. (records : List Record) (end : Ending)
    → IsTrace bytes max records end → Part given records before after)

-- The answers to a trace whose magic was read.
abbrev pub IsBegun : Finish → Type 0
IsBegun finish.Done = ⊤
IsBegun (finish.Cut n) = ⊤
IsBegun (finish.TooLong n) = ⊤
IsBegun (finish.NotTrace n) = ⊥
IsBegun finish.ReadFault = ⊥
IsBegun finish.WriteFault = ⊥
IsBegun finish.Memory = ⊥
