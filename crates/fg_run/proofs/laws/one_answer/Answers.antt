use Rattle.fg_run.proofs.Behaviours.{one_answer}
use Rattle.fg_run.proofs.laws.one_answer.Goals as goal

pub returns : goal.returns
returns c = one_answer c.one_trace.ensures c.one_cut.ensures c.one_capture.ensures c.one_spelling.ensures c.one_check.ensures c.one_text.ensures.answers c.one_told.ensures
