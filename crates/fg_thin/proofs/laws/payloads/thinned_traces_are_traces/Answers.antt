use Rattle.fg_thin.proofs.TraceLemmas.{stream_is_trace, thinned_is_trace}
use Rattle.fg_thin.proofs.laws.payloads.thinned_traces_are_traces.Goals as goal

pub returns-clause-payloads : goal.returns-clause-payloads
returns-clause-payloads c = thinned_is_trace c.records_fit.ensures c.traces_are_short.ensures c.spelled_is_read.ensures

pub returns-clause-stream : goal.returns-clause-stream
returns-clause-stream c =
    stream_is_trace c.records_fit.ensures c.traces_are_short.ensures c.spelled_is_read.ensures c.cuts_are_payloads.ensures c.payloads_are_the_cut.ensures.there
