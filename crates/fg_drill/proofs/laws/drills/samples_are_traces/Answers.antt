use Rattle.fg_drill.proofs.Samples.{records_are, samples_trace}
use Rattle.fg_drill.proofs.laws.drills.samples_are_traces.Goals as goal

pub returns-clause-counted : goal.returns-clause-counted
returns-clause-counted c = records_are c.records_are_counted.ensures

pub returns-clause-trace : goal.returns-clause-trace
returns-clause-trace c =
    samples_trace c.made_streams_are_cut.ensures c.made_streams_are_packets.ensures c.records_are_counted.ensures
    c.payloads_are_the_cut.ensures.cut c.thinned_traces_are_traces.ensures.stream
