use Rattle.fg_commands.proofs.Filters.{ended_so}
use Rattle.fg_commands.proofs.Traces.{trace_answered}
use Rattle.fg_commands.proofs.proving.run_prove.Goals as goal

pub returns : goal.returns
returns g c =
    let e = c.prove_flow.ensures in
    ended_so c.of.result c.into.result _ c.of.ensures.status c.of.ensures.why c.into.ensures
    (trace_answered c.args.plan.now.max _ _ c.prove_flow.result e.whole e.exactly e.all_read e.reads e.refused e.part e.faults)
