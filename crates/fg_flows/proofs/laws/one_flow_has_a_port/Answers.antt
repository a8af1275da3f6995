use Rattle.fg_flows.proofs.FlowLemmas.{one_flow}
use Rattle.fg_flows.proofs.laws.one_flow_has_a_port.Goals as goal

pub returns : goal.returns
returns c = one_flow
