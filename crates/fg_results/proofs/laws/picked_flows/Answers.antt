use Rattle.fg_results.proofs.Picked.{named_flows_are_picked, picked_flow_result, picked_results}
use Rattle.fg_results.proofs.laws.picked_flows.Goals as goal

pub returns-clause-flow : goal.returns-clause-flow
returns-clause-flow c = picked_flow_result

pub returns-clause-plan : goal.returns-clause-plan
returns-clause-plan c = picked_results

pub returns-clause-named : goal.returns-clause-named
returns-clause-named c = named_flows_are_picked
