use Rattle.fg_flows.proofs.FlowLemmas.{no_fault, one_fault}
use Rattle.fg_flows.proofs.laws.one_flow_fault.Goals as goal

pub returns-clause-none : goal.returns-clause-none
returns-clause-none c = no_fault

pub returns-clause-one : goal.returns-clause-one
returns-clause-one c = one_fault
