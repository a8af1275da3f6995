use Rattle.std.proofs.Common.{◌≡◌, ◌≤◌, ◌-◌, length, take}
use Rattle.fg_io.specs.Sink.{Gains}
use Rattle.fg_io.proofs.sink.write_all.Given as goal

abbrev pub invariant-loop-taken : goal.invariant-loop-taken
invariant-loop-taken g l =
    (l.taken ≤ length l.piece)
    × Gains (g.K.Sink.written l.initial.sink) (take l.taken l.piece) (g.K.Sink.written l.sink)
    × (g.K.Sink.faults l.sink ≡ g.K.Sink.faults l.initial.sink)

abbrev pub decreases-loop-taken : goal.decreases-loop-taken
decreases-loop-taken g l = length l.piece - l.taken
