use Rattle.fg_flows.proofs.SheafLemmas.{nothing_held, nothing_said}
use Rattle.fg_flows.proofs.sheaf.Sheaf.new.Goals as goal

pub invariant_of-result : goal.invariant_of-result
invariant_of-result c =
    nothing_held c.in_ok-with_capacity.field-0 c.in_ok-empty_flows.field-0.items c.in_ok-with_capacity.ensures.items c.in_ok-with_capacity.ensures.capacity
    c.in_ok-empty_flows.ensures.empty c.in_ok-empty_flows.ensures.room

pub returns : goal.returns
returns c =
    nothing_said c.in_ok-with_capacity.field-0.items c.in_ok-empty_flows.field-0.items c.args.flows c.in_ok-empty_flows.ensures.empty c.in_ok-empty_flows.ensures.count
