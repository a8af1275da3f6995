use Rattle.std.proofs.Common.{◌≡◌, ◌++◌, take}
use Rattle.std.specs.List.{flat_map}
use Rattle.fg_io.specs.Sent.{Sent}
use Rattle.fg_report.specs.Text.{gap_line}
use Rattle.fg_report.proofs.report.write_gaps.Given as goal

abbrev pub invariant-loop-gap : goal.invariant-loop-gap
invariant-loop-gap g l = record {
  sent : Sent (g.K.Sink.written l.initial.out)
      (l.initial.held ++ flat_map (gap_line l.port) (take l.gap-index l.gaps))
      l.held (g.K.Sink.written l.out);
  faults : g.K.Sink.faults l.out ≡ g.K.Sink.faults l.initial.out;
}
