use Rattle.fg_pick.proofs.Marking.{marks_flow_more}
use Rattle.fg_pick.proofs.ports.mark_flows.Goals as goal

pub loop-flow-preserved : goal.loop-flow-preserved
loop-flow-preserved c = marks_flow_more c.args.flows.now c.loop-flow.flow-index _ _ _ _ c.loop-flow-test.true c.loop-flow.invariant c.mark_flow.ensures
