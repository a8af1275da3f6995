-- What a repair counts of faults of the outside: this project's own.
use Rattle.std.specs.Prelude.{◌≡◌, ℕ, List, Result, IsErr}
use Rattle.fg_io.specs.declared.fault.Fault.{Fault}
use Rattle.fg_io.specs.declared.fault.Fault.TheVariants.{Read, Write}
use Rattle.fg_io.specs.Faults.{Answers, AnyCounts, AllStand, NoneFalls}
use Rattle.fg_trace.specs.declared.step.Finish.{Finish}
use Rattle.fg_trace.specs.declared.step.Finish.TheVariants as finish
use Rattle.fg_trace.specs.Finish.{IsFault}
use Rattle.fg_results.specs.Stops.{Growth, ByRecord, ByBatch}

-- What a call has counted that may read on while it writes. `Reads` and `Writes` say that it answers a fault of reading, of
-- writing: where it does, a fault was counted there. No fault of writing was counted with any other answer, and none of reading
-- where the call doesn't break off.
pub record CountsAhead (Breaks Reads Writes : Type 0) (sources sinks : List (ℕ × ℕ)) : Type 0 where
  pub read : Reads → AnyCounts sources
  pub write : Writes → AnyCounts sinks
  pub no_read : (¬ Breaks) → AllStand sources
  pub no_write : (¬ Writes) → AllStand sinks
  pub rise : NoneFalls sources
  pub sinks_rise : NoneFalls sinks

-- The answers of a repair with which a fault of reading may have been counted: where its lanes grow record by record, the one that
-- tells it. Where they grow batch by batch, one batch is read while another is run and a third is written, and of two faults the
-- one that is told is the first in the order of the trace: so every answer that breaks it off.
abbrev pub MayHaveFailedToRead : Growth → Finish → Type 0
MayHaveFailedToRead ByRecord answer = answer ≡ finish.ReadFault
MayHaveFailedToRead ByBatch answer = IsFault answer

-- What a repair has counted whose lanes grow so.
abbrev pub RepairCounts : Growth → Finish → List (ℕ × ℕ) → List (ℕ × ℕ) → Type 0
RepairCounts growth answer sources sinks =
    CountsAhead (MayHaveFailedToRead growth answer) (answer ≡ finish.ReadFault) (answer ≡ finish.WriteFault) sources sinks

-- The same of a part of it that answers a `Fault` where it isn't Ok, and that may read on while it writes.
abbrev pub CountsBeside : {A : Type 0} → (came : Result A Fault) → (sources sinks : List (ℕ × ℕ)) → Type 0
CountsBeside result sources sinks = CountsAhead (IsErr result) (Answers result Read) (Answers result Write) sources sinks
