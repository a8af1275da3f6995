use Rattle.fg_drill.specs.ComesBack.{ThinnedTraceIsRead}
use Rattle.fg_drill.proofs.WholeTraces.{trace_comes_back, trace_is_read}
use Rattle.fg_drill.proofs.laws.repaired.thinned_traces_come_back.Goals as goal

read : goal.After-thinned_comes_back → ThinnedTraceIsRead
read c = trace_is_read c.records_fit.ensures c.spelled_is_read.ensures c.one_trace.ensures

pub returns : goal.returns
returns c = record {
  read = read c;
  comes_back = trace_comes_back (read c) c.thinned_comes_back.ensures.consistent c.thinned_comes_back.ensures.shown
      c.thinned_comes_back.ensures.whole;
}
