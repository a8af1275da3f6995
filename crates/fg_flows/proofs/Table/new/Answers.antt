use Rattle.std.proofs.Common.{length, sym, ◌∙◌, arith, below_more}
use Rattle.fg_flows.proofs.FlowLemmas.{some_of, table_made}
use Rattle.fg_flows.proofs.Table.new.Goals as goal

pub loop-i-preserved : goal.loop-i-preserved
loop-i-preserved c = (
  c.in_ok-add_flow.ensures.index,
  below_more _ _ c.loop-i.invariant.1 c.in_ok-add_flow.ensures.good,
)

pub invariant_of-result : goal.invariant_of-result
invariant_of-result c =
    table_made c.args.ports.now c.in_ok-flows.flows.items c.loop-i.i c.loop-i.owners c.in_ok-flows.ensures.items
    (some_of (length c.args.ports.now) (sym c.is_empty.ensures ∙ c.if-is_empty.false)) (omega (arith, c.if-ports-gt-MOST_FLOWS.false)) (omega arith)
    c.loop-i.invariant.0 c.loop-i.invariant.1

pub returns-clause-table : goal.returns-clause-table
returns-clause-table c =
    (table_made c.args.ports.now c.in_ok-flows.flows.items c.loop-i.i c.loop-i.owners c.in_ok-flows.ensures.items
    (some_of (length c.args.ports.now) (sym c.is_empty.ensures ∙ c.if-is_empty.false)) (omega (arith, c.if-ports-gt-MOST_FLOWS.false)) (omega arith)
    c.loop-i.invariant.0 c.loop-i.invariant.1).0
