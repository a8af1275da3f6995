use Rattle.std.proofs.lemmas.Result.{on_err_weaker}
use Rattle.fg_io.proofs.SentLemmas.{Sent-cut}
use Rattle.fg_monitor.proofs.lines.Lines.close.Goals as goal

pub returns-clause-part : goal.returns-clause-part
returns-clause-part g c =
    on_err_weaker _ (Sent-cut _ _ _ _ c.add_closing.new.self.held c.in_ok-add_closing.ensures.sent) c.flush.ensures.part
