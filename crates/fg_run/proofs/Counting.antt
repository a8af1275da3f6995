-- How faults of the outside are counted, where a call may read on while it writes.
use Rattle.std.proofs.Common.{◌≡◌, ℕ, List}
use Rattle.fg_io.specs.Faults.{CountsFaults}
use Rattle.fg_results.specs.Counted.{CountsAhead}
use Rattle.fg_results.specs.Stops.{Growth, ByRecord, ByBatch}
use Rattle.fg_commands.specs.declared.ended.Why.{Why}
use Rattle.fg_commands.specs.declared.ended.Why.TheVariants as why
use Rattle.fg_commands.specs.Ended.{IsFault}
use Rattle.fg_commands.proofs.Filters.{read_breaks}
use Rattle.fg_commands.proofs.Told.{Tells}
use Rattle.fg_run.specs.Counted.{MayHaveFailedBeside}

-- the counts of a call's end are those of the answer that tells it
pub counts_ahead : {A : Type 0} {why_of : A → Why} {Fails Reads Writes : A → Type 0} {B B' : Type 0} {sources sinks : List (ℕ × ℕ)}
    → Tells why_of Fails Reads Writes → (a : A) → (B → B') → CountsAhead B (Reads a) (Writes a) sources sinks
    → CountsAhead B' (why_of a ≡ why.ReadFault) (why_of a ≡ why.WriteFault) sources sinks
counts_ahead t a breaks h = record {
  read = λ e. h.read (t.read_of a e);
  write = λ e. h.write (t.write_of a e);
  no_read = λ no. h.no_read (λ b. no (breaks b));
  no_write = λ no. h.no_write (λ w. no (t.write a w));
  rise = h.rise;
  sinks_rise = h.sinks_rise;
}

-- a call that reads in turn counts as one does that may read on
pub in_turn : {R W : Type 0} {sources sinks : List (ℕ × ℕ)} → CountsFaults R W sources sinks → CountsAhead R R W sources sinks
in_turn h = record {
  read = h.read;
  write = h.write;
  no_read = h.no_read;
  no_write = h.no_write;
  rise = h.rise;
  sinks_rise = h.sinks_rise;
}

-- what may have failed beside is a fault
pub failed_beside : (growth : Growth) (answer : Why) → MayHaveFailedBeside growth answer → IsFault answer
failed_beside ByRecord answer e = read_breaks answer e
failed_beside ByBatch answer fault = fault
