-- What a repair has counted, by what its parts have.
use Rattle.std.proofs.Common.{ℕ, List, Result, Ok, Err, IfOk, refl, sym, ap, subst}
use Rattle.fg_io.specs.declared.fault.Fault.{Fault}
use Rattle.fg_io.specs.Faults.{Counts}
use Rattle.fg_trace.specs.declared.step.Finish.{Finish}
use Rattle.fg_trace.specs.Finish.{IsFault, finish_after}
use Rattle.fg_results.specs.Counted.{RepairCounts, CountsBeside}
use Rattle.fg_results.specs.Stops.{Growth, ByRecord, ByBatch}
use Rattle.fg_results.proofs.CountLemmas.{broken_counts, whole_counts, read_only, write_only}
use Rattle.fg_engine.specs.Driver.{PartCounts}
use Rattle.fg_engine.specs.Engine.{answer_of}

-- Batch by batch

pub counts_by_batch :
    (result : Result Finish Fault) (sources sinks : List (ℕ × ℕ)) → IfOk result (λ finish. ¬ IsFault finish)
    → CountsBeside result sources sinks → RepairCounts ByBatch (answer_of result) sources sinks
counts_by_batch (Ok finish) sources sinks sound h = whole_counts (Ok finish) finish sources sinks refl sound h
counts_by_batch (Err fault) sources sinks sound h = broken_counts {A = Finish} (Err fault) fault sources sinks refl h

-- Record by record

ended_counts :
    (finish : Finish) (sources sinks : List (ℕ × ℕ)) → (¬ IsFault finish) → Counts {A = Finish} (Ok finish) sources sinks
    → RepairCounts ByRecord finish sources sinks
ended_counts finish sources sinks sound h = record {
  read = λ told. absurd (sound (subst IsFault (sym told) tt));
  write = λ told. absurd (sound (subst IsFault (sym told) tt));
  no_read = λ _. h.no_read (λ none. none);
  no_write = λ _. h.no_write (λ none. none);
  rise = h.rise;
  sinks_rise = h.sinks_rise;
}

faulted_counts :
    (fault : Fault) (sources sinks : List (ℕ × ℕ)) → Counts {A = Finish} (Err fault) sources sinks
    → RepairCounts ByRecord (finish_after fault) sources sinks
faulted_counts fault sources sinks h = record {
  read = λ told. h.read (read_only fault told);
  write = λ told. h.write (write_only fault told);
  no_read = λ none. h.no_read (λ is. none (ap finish_after is));
  no_write = λ none. h.no_write (λ is. none (ap finish_after is));
  rise = h.rise;
  sinks_rise = h.sinks_rise;
}

pub counts_by_record :
    (result : Result Finish Fault) (sources sinks : List (ℕ × ℕ)) → IfOk result (λ finish. ¬ IsFault finish)
    → Counts result sources sinks → RepairCounts ByRecord (answer_of result) sources sinks
counts_by_record (Ok finish) sources sinks sound h = ended_counts finish sources sinks sound h
counts_by_record (Err fault) sources sinks sound h = faulted_counts fault sources sinks h

-- In whichever way

pub repair_counts :
    (growth : Growth) (result : Result Finish Fault) (sources sinks : List (ℕ × ℕ)) → IfOk result (λ finish. ¬ IsFault finish)
    → PartCounts growth result sources sinks → RepairCounts growth (answer_of result) sources sinks
repair_counts ByRecord result sources sinks sound h = counts_by_record result sources sinks sound h
repair_counts ByBatch result sources sinks sound h = counts_by_batch result sources sinks sound h
