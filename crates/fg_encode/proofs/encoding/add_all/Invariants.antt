use Rattle.std.proofs.Common.{◌≡◌, ◌++◌, take}
use Rattle.std.specs.List.{flat_map}
use Rattle.fg_io.specs.Sent.{Sent}
use Rattle.fg_trace.specs.Trace.{spelling}
use Rattle.fg_encode.proofs.encoding.add_all.Given as goal

abbrev pub invariant-loop-i : goal.invariant-loop-i
invariant-loop-i g l = record {
  sent : Sent (g.K.Sink.written l.fn.out) (l.fn.trace ++ flat_map spelling (take l.i l.batch))
      l.trace (g.K.Sink.written l.out);
  faults : g.K.Sink.faults l.out ≡ g.K.Sink.faults l.fn.out;
}
