use Rattle.std.proofs.Common.{◌∙◌}
use Rattle.std.proofs.lemmas.Result.{on_ok_weaker, on_err_weaker}
use Rattle.fg_report.proofs.SentLemmas.{on_err, made, flow_begun, flow_ended, flow_cut}
use Rattle.fg_report.proofs.report.write_flow.Goals as goal

pub returns-in_err-add-clause-part : goal.returns-in_err-add-clause-part
returns-in_err-add-clause-part g c =
    on_err _ (flow_begun _ _ c.args.held.now _ c.args.flow.now (made _ _ _ _ c.clear.ensures.items (c.deref.ensures.value ∙ c.in_ok-push_flow_lines.ensures)) c.in_err-add.ensures.part)

pub returns-clause-sent : goal.returns-clause-sent
returns-clause-sent g c = on_ok_weaker _ (flow_ended _ _ _ c.args.held.now _ _ _ _ c.args.flow.now (made _ _ _ _ c.clear.ensures.items (c.deref.ensures.value ∙ c.in_ok-push_flow_lines.ensures)) c.in_ok-add.ensures.sent c.runs.ensures) c.write_gaps.ensures.sent

pub returns-clause-part : goal.returns-clause-part
returns-clause-part g c = on_err_weaker _ (flow_cut _ _ _ c.args.held.now _ _ _ c.args.flow.now (made _ _ _ _ c.clear.ensures.items (c.deref.ensures.value ∙ c.in_ok-push_flow_lines.ensures)) c.in_ok-add.ensures.sent c.runs.ensures) c.write_gaps.ensures.part
