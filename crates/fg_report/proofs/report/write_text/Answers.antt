use Rattle.std.proofs.Common.{◌∙◌, append_assoc}
use Rattle.std.proofs.lemmas.Result.{on_ok_weaker, on_err_weaker}
use Rattle.fg_io.proofs.SentLemmas.{Sent-cut, Sent-whole}
use Rattle.fg_report.specs.Text.{other_line, tail_text}
use Rattle.fg_report.proofs.SentLemmas.{on_err, made, report_begun, report_stopped, report_cut, report_held}
use Rattle.fg_report.proofs.report.write_text.Goals as goal

pub returns-in_err-write_flows-clause-part : goal.returns-in_err-write_flows-clause-part
returns-in_err-write_flows-clause-part g c = on_err _ (report_begun _ _ _ c.args.flows.now c.args.other c.args.tail c.in_ok-held.ensures c.in_err-write_flows.ensures.part)

pub returns-in_err-push_end-clause-part : goal.returns-in_err-push_end-clause-part
returns-in_err-push_end-clause-part g c = on_err _ (report_stopped _ _ _ _ c.args.flows.now c.args.other c.args.tail c.in_ok-held.ensures c.in_ok-write_flows.ensures.sent)

pub returns-in_err-add-clause-part : goal.returns-in_err-add-clause-part
returns-in_err-add-clause-part g c =
    on_err _ (report_cut _ _ _ _ _ _ c.args.flows.now c.args.other c.args.tail c.in_ok-held.ensures c.in_ok-write_flows.ensures.sent
    (made _ _ _ _ c.clear.ensures.items (c.deref.ensures.value ∙ c.in_ok-push_end.ensures ∙ append_assoc c.clear.new.self.items (other_line c.args.other) (tail_text c.args.tail))) c.in_err-add.ensures.part)

pub returns-clause-whole : goal.returns-clause-whole
returns-clause-whole g c = on_ok_weaker _ (Sent-whole _ _ _ _ _ (report_held _ _ _ _ _ _ _ c.args.flows.now c.args.other c.args.tail c.in_ok-held.ensures c.in_ok-write_flows.ensures.sent (made _ _ _ _ c.clear.ensures.items (c.deref.ensures.value ∙ c.in_ok-push_end.ensures ∙ append_assoc c.clear.new.self.items (other_line c.args.other) (tail_text c.args.tail))) c.in_ok-add.ensures.sent)) c.flush.ensures.whole

pub returns-clause-part : goal.returns-clause-part
returns-clause-part g c = on_err_weaker _ (Sent-cut _ _ _ _ _ (report_held _ _ _ _ _ _ _ c.args.flows.now c.args.other c.args.tail c.in_ok-held.ensures c.in_ok-write_flows.ensures.sent (made _ _ _ _ c.clear.ensures.items (c.deref.ensures.value ∙ c.in_ok-push_end.ensures ∙ append_assoc c.clear.new.self.items (other_line c.args.other) (tail_text c.args.tail))) c.in_ok-add.ensures.sent)) c.flush.ensures.part
