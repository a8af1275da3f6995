use Rattle.std.proofs.Common.{◌∙◌}
use Rattle.fg_report.specs.Text.{flow_text}
use Rattle.fg_io.proofs.SentLemmas.{Sent-more, Sent-at}
use Rattle.fg_report.proofs.SentLemmas.{on_err}
use Rattle.fg_report.proofs.report.write_flows.Goals as goal

pub returns-in_err-write_flow-clause-part : goal.returns-in_err-write_flow-clause-part
returns-in_err-write_flow-clause-part g c =
    on_err _ (Sent-at flow_text c.args.flows.now c.loop-flow.flow-index c.flow-item.result c.flow-item.result _ _ _ c.args.held.now _
    c.loop-flow-test.true c.flow-item.is c.loop-flow.invariant.sent c.in_err-write_flow.ensures.part)

pub loop-flow-preserved : goal.loop-flow-preserved
loop-flow-preserved g c = record {
  sent = Sent-more flow_text c.args.flows.now c.loop-flow.flow-index c.flow-item.result c.flow-item.result _ _ _ c.args.held.now _ _
      c.loop-flow-test.true c.flow-item.is c.loop-flow.invariant.sent c.in_ok-write_flow.ensures.sent;
  faults = c.in_ok-write_flow.ensures.faults.no_write (λ h. h) ∙ c.loop-flow.invariant.faults;
}
