use Rattle.fg_commands.proofs.Filters.{also_answered, ended_so, last_answered}
use Rattle.fg_commands.proofs.Surveyed.{comes_back}
use Rattle.fg_commands.proofs.Told.{finish_tells}
use Rattle.fg_commands.proofs.Traces.{trace_answered}
use Rattle.fg_commands.proofs.surveying.run_survey.Goals as goal

pub returns : goal.returns
returns g c =
    let e = c.survey.ensures in
    ended_so c.of.result c.into.result _ c.of.ensures.status c.of.ensures.why c.into.ensures
    (last_answered _ _
    (also_answered _ _ _ (trace_answered c.args.max _ _ c.survey.result e.whole e.exactly e.all_read e.reads e.refused e.part e.faults)
    (comes_back c.surveys_tell_losses.ensures.trace c.args.json c.args.max c.survey.result _ _ _ e.whole))
    (λ failed. e.unread (finish_tells.read_of c.survey.result failed)))
