use Rattle.std.proofs.Common.{◌≡◌, ◌++◌, take}
use Rattle.std.specs.List.{flat_map}
use Rattle.fg_io.specs.Sent.{Sent}
use Rattle.fg_report.specs.Text.{flow_text}
use Rattle.fg_report.proofs.report.write_flows.Given as goal

abbrev pub invariant-loop-flow : goal.invariant-loop-flow
invariant-loop-flow g l = record {
  sent : Sent (g.K.Sink.written l.initial.out)
      (l.initial.held ++ flat_map flow_text (take l.flow-index l.flows))
      l.held (g.K.Sink.written l.out);
  faults : g.K.Sink.faults l.out ≡ g.K.Sink.faults l.initial.out;
}
