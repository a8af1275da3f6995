-- What a repair has counted.
use Rattle.std.proofs.Common.{◌≡◌, ℕ, List, Result, Ok, Err, IsOk, refl, sym, ap, subst, ◌∙◌}
use Rattle.fg_io.specs.declared.fault.Fault.{Fault}
use Rattle.fg_io.specs.declared.fault.Fault.TheVariants.{Read, Write, Memory}
use Rattle.fg_io.specs.Faults.{Counts, CountsFaults}
use Rattle.fg_trace.specs.declared.step.Finish.{Finish}
use Rattle.fg_trace.specs.declared.step.Finish.TheVariants as finish
use Rattle.fg_trace.specs.Finish.{IsFault, finish_after}
use Rattle.fg_results.specs.Counted.{MayHaveFailedToRead, RepairCounts, CountsBeside}
use Rattle.fg_results.specs.Stops.{Growth, ByRecord, ByBatch}

-- Whoever answers a fault of reading may have counted one.
may_have_failed : (growth : Growth) (answer : Finish) → answer ≡ finish.ReadFault → MayHaveFailedToRead growth answer
may_have_failed ByRecord answer read = read
may_have_failed ByBatch answer read = subst IsFault (sym read) tt

-- What is counted by a repair whose lanes grow record by record is what one may count whose lanes grow in any way.
pub by_record_counts_in_any_way :
    (growth : Growth) (answer : Finish) (sources sinks : List (ℕ × ℕ))
    → CountsFaults (answer ≡ finish.ReadFault) (answer ≡ finish.WriteFault) sources sinks → RepairCounts growth answer sources sinks
by_record_counts_in_any_way growth answer sources sinks h = record {
  read = h.read;
  write = h.write;
  no_read = λ none. h.no_read (λ read. none (may_have_failed growth answer read));
  no_write = h.no_write;
  rise = h.rise;
  sinks_rise = h.sinks_rise;
}

-- What counts as a call that reads or writes by itself counts as one that may do both at once.
pub counts_beside :
    {A : Type 0} → (result : Result A Fault) (sources sinks : List (ℕ × ℕ)) → Counts result sources sinks → CountsBeside result sources sinks
counts_beside (Ok x) sources sinks h = record {
  read = h.read;
  write = h.write;
  no_read = λ _. h.no_read (λ none. none);
  no_write = h.no_write;
  rise = h.rise;
  sinks_rise = h.sinks_rise;
}
counts_beside (Err fault) sources sinks h = record {
  read = h.read;
  write = h.write;
  no_read = λ none. absurd (none refl);
  no_write = h.no_write;
  rise = h.rise;
  sinks_rise = h.sinks_rise;
}

-- The answer tells a fault of reading, or of writing, where the fault is one.
pub read_only : (fault : Fault) → finish_after fault ≡ finish.ReadFault → fault ≡ Read
read_only Read is = refl
read_only Write is = absurd (cc is)
read_only Memory is = absurd (cc is)

pub write_only : (fault : Fault) → finish_after fault ≡ finish.WriteFault → fault ≡ Write
write_only Read is = absurd (cc is)
write_only Write is = refl
write_only Memory is = absurd (cc is)

breaks_off : (fault : Fault) → IsFault (finish_after fault)
breaks_off Read = tt
breaks_off Write = tt
breaks_off Memory = tt

-- Where a part of a repair breaks it off, the repair has counted what the part has.
pub broken_counts :
    {A : Type 0} → (result : Result A Fault) (fault : Fault) (sources sinks : List (ℕ × ℕ)) → result ≡ Err fault
    → CountsBeside result sources sinks → RepairCounts ByBatch (finish_after fault) sources sinks
broken_counts (Ok x) fault sources sinks is h = absurd (cc is)
broken_counts (Err other) fault sources sinks is h =
    let same : other ≡ fault = cc is in
    record {
      read = λ told. h.read (same ∙ read_only fault told);
      write = λ told. h.write (same ∙ write_only fault told);
      no_read = λ none. absurd (none (breaks_off fault));
      no_write = λ none. h.no_write (λ told. none (ap finish_after (sym same ∙ told)));
      rise = h.rise;
      sinks_rise = h.sinks_rise;
    }

-- And so it has where the part is Ok, and the answer breaks nothing off.
pub whole_counts :
    {A : Type 0} → (result : Result A Fault) (answer : Finish) (sources sinks : List (ℕ × ℕ)) → IsOk result → (¬ IsFault answer)
    → CountsBeside result sources sinks → RepairCounts ByBatch answer sources sinks
whole_counts (Err fault) answer sources sinks ok sound h = absurd (cc ok)
whole_counts (Ok value) answer sources sinks ok sound h = record {
  read = λ told. absurd (sound (subst IsFault (sym told) tt));
  write = λ told. absurd (sound (subst IsFault (sym told) tt));
  no_read = λ _. h.no_read (λ none. cc none);
  no_write = λ _. h.no_write (λ none. none);
  rise = h.rise;
  sinks_rise = h.sinks_rise;
}
