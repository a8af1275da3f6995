-- How a command ends that reads a trace: this project's own.
use Rattle.std.specs.Prelude.{⊤}
use Rattle.fg_io.specs.declared.fault.Fault.{Fault}
use Rattle.fg_io.specs.declared.fault.Fault.TheVariants.{Read, Write, Memory}
use Rattle.fg_trace.specs.declared.step.Finish.{Finish}
use Rattle.fg_trace.specs.declared.step.Finish.TheVariants as finish
use Rattle.fg_trace.specs.Trace.{Ending, Ended, NotTrace, Cut, TooLong}

-- The answer to a trace of this ending, where nothing fails and memory is there.
abbrev pub finish_of : Ending → Finish
finish_of Ended = finish.Done
finish_of (NotTrace n) = finish.NotTrace n
finish_of (Cut n) = finish.Cut n
finish_of (TooLong n) = finish.TooLong n

-- The answer where a call gave up.
abbrev pub finish_after : Fault → Finish
finish_after Read = finish.ReadFault
finish_after Write = finish.WriteFault
finish_after Memory = finish.Memory

-- A fault of the outside, or want of memory.
abbrev pub IsFault : Finish → Type 0
IsFault finish.ReadFault = ⊤
IsFault finish.WriteFault = ⊤
IsFault finish.Memory = ⊤
IsFault finish.Done = ⊥
IsFault (finish.NotTrace n) = ⊥
IsFault (finish.Cut n) = ⊥
IsFault (finish.TooLong n) = ⊥

-- The answers after which nothing of the input is left.
abbrev pub ReadsAll : Finish → Type 0
ReadsAll finish.Done = ⊤
ReadsAll (finish.Cut n) = ⊤
ReadsAll (finish.NotTrace n) = ⊥
ReadsAll (finish.TooLong n) = ⊥
ReadsAll finish.ReadFault = ⊥
ReadsAll finish.WriteFault = ⊥
ReadsAll finish.Memory = ⊥
