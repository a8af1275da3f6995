-- The answers to endings: this project's own.
use Rattle.std.specs.Prelude.{◌≡◌, ◌⊎◌, ℕ, List, Option, None, Some, Result, Ok, Err}
use Rattle.fg_io.specs.declared.fault.Fault.{Fault}
use Rattle.fg_io.specs.declared.fault.Fault.TheVariants as fault
use Rattle.fg_trace.specs.declared.step.Finish.{Finish}
use Rattle.fg_trace.specs.declared.step.Finish.TheVariants as finish
use Rattle.fg_trace.specs.Trace.{Ending, Ended, NotTrace, Cut, TooLong}
use Rattle.fg_encode.specs.declared.stream.StreamFault.TheVariants.{NotTransport, TooLong as PastLimit}
use Rattle.fg_encode.specs.Stream.{StreamEnding}
use Rattle.fg_check.specs.declared.walk.Checked.{Checked}
use Rattle.fg_check.specs.declared.walk.Checked.TheVariants as checked
use Rattle.fg_pcap.specs.declared.ending.CaptureEnding.{CaptureEnding}
use Rattle.fg_pcap.specs.declared.ending.CaptureEnding.TheVariants as capture
use Rattle.fg_pcap.specs.declared.writer.SpellingEnding.{SpellingEnding}
use Rattle.fg_pcap.specs.declared.writer.SpellingEnding.TheVariants as spelling
use Rattle.fg_commands.specs.declared.ended.Why.{Why}
use Rattle.fg_commands.specs.declared.ended.Why.TheVariants as why
use Rattle.fg_commands.specs.Ended.{IsFault}

-- The answer to a trace that ends so.
abbrev pub why_of_ending : Ending → Why
why_of_ending Ended = why.Done
why_of_ending (NotTrace n) = why.NotTrace n
why_of_ending (Cut n) = why.Cut n
why_of_ending (TooLong n) = why.TooLong n

-- The answer of a command that reads a trace and finishes so.
abbrev pub why_of_finish : Finish → Why
why_of_finish finish.Done = why.Done
why_of_finish finish.ReadFault = why.ReadFault
why_of_finish finish.WriteFault = why.WriteFault
why_of_finish (finish.NotTrace n) = why.NotTrace n
why_of_finish (finish.Cut n) = why.Cut n
why_of_finish (finish.TooLong n) = why.TooLong n
why_of_finish finish.Memory = why.Memory

-- The answer to a stream that ends so.
abbrev pub why_of_stream : StreamEnding → Why
why_of_stream None = why.Done
why_of_stream (Some (PastLimit n)) = why.TooLong n
why_of_stream (Some (NotTransport fault)) = why.NotTransport fault

-- The answer to a text of cases that is judged so.
abbrev pub why_of_checked : Checked → Why
why_of_checked checked.Done = why.Done
why_of_checked (checked.Unproved i) = why.Unproved i
why_of_checked (checked.NotCase n) = why.NotCase n
why_of_checked (checked.TooLong n) = why.TooLong n

-- The answer where such a fault ends a command.
abbrev pub why_of_fault : Fault → Why
why_of_fault fault.Read = why.ReadFault
why_of_fault fault.Write = why.WriteFault
why_of_fault fault.Memory = why.Memory

-- The answer of a command that such a fault ends, or that ends in another way that is answered so.
abbrev pub why_of_came : {E : Type 0} → (E → Why) → Result E Fault → Why
why_of_came why_of (Ok ending) = why_of ending
why_of_came why_of (Err fault) = why_of_fault fault

-- The answer to a capture that ends so.
abbrev pub why_of_capture : CaptureEnding → Why
why_of_capture capture.Ended = why.Done
why_of_capture (capture.NotCapture n) = why.NotCapture n
why_of_capture (capture.Cut n) = why.Cut n
why_of_capture (capture.TooLong n) = why.TooLong n

-- The answer to a trace that is written as a capture and ends so.
abbrev pub why_of_spelling : SpellingEnding → Why
why_of_spelling spelling.Done = why.Done
why_of_spelling (spelling.NotTrace n) = why.NotTrace n
why_of_spelling (spelling.Unfit k) = why.Unfit k
why_of_spelling (spelling.Cut n) = why.Cut n
why_of_spelling (spelling.TooLong n) = why.TooLong n

-- With this answer, of which `read` tells how far it needs, an input of these bytes was read so far that this is left: as far as
-- its ending needs, where that is answered, and else as far as a fault leaves.
abbrev pub ReadsAs : {E : Type 0} → (E → Why) → (Option E → List ℕ → Option (List ℕ) → Type 0) → Why → List ℕ → Option (List ℕ) → Type 0
ReadsAs {E} why_of read answer bytes now =
    (IsFault answer × read None bytes now) ⊎ ((end : E) × (answer ≡ why_of end) × read (Some end) bytes now)

-- All was done, or it is another of these answers.
abbrev pub IsDoneOr : (ℕ → Why) → Why → Type 0
IsDoneOr other answer = (answer ≡ why.Done) ⊎ ((n : ℕ) × (answer ≡ other n))
