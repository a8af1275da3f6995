use Rattle.fg_io.proofs.FaultLemmas.{on_err}
use Rattle.fg_survey.proofs.Walking.{none_is_part}
use Rattle.fg_survey.proofs.walk.survey_trace.Goals as goal

pub returns-in_err-sheet-clause-part : goal.returns-in_err-sheet-clause-part
returns-in_err-sheet-clause-part g c = on_err _ _ (none_is_part c.args.json c.args.max _ (g.K.Sink.written c.args.out.now))
