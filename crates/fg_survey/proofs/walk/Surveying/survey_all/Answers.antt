use Rattle.fg_io.proofs.FaultLemmas.{on_err}
use Rattle.fg_survey.specs.declared.walk.Surveying.{Surveying}
use Rattle.fg_survey.proofs.Walking.{no_refusal, none_is_part, surveys, surveys_part}
use Rattle.fg_survey.proofs.walk.Surveying.survey_all.Goals as goal

pub returns-in_err-finish-clause-part : goal.returns-in_err-finish-clause-part
returns-in_err-finish-clause-part g c = on_err _ _ (none_is_part c.args.json c.args.max _ (g.K.Sink.written c.args.out.now))

pub returns-in_err-write_text-in_default-clause-part : goal.returns-in_err-write_text-in_default-clause-part
returns-in_err-write_text-in_default-clause-part g c =
    on_err _ _ (surveys_part (λ (w : Surveying). w.sheet) c.walk_trace.new.telling c.one_trace.ensures c.one_text.ensures c.args.json c.args.max c.in_ok-finish.finish c.tail_of.result _ _ _ c.in_ok-finish.ensures.whole c.in_default.not-NotTrace c.tail_of.ensures c.in_err-write_text-in_default.ensures.part)

pub returns-in_ok-write_text-in_default-clause-whole : goal.returns-in_ok-write_text-in_default-clause-whole
returns-in_ok-write_text-in_default-clause-whole g c =
    surveys (λ (w : Surveying). w.sheet) c.walk_trace.new.telling c.args.json c.args.max c.in_ok-finish.finish c.tail_of.result _ _ _ c.in_ok-finish.ensures.whole c.in_default.not-NotTrace c.tail_of.ensures c.in_ok-write_text-in_default.ensures.whole

pub returns-in_ok-write_text-in_default-clause-refused : goal.returns-in_ok-write_text-in_default-clause-refused
returns-in_ok-write_text-in_default-clause-refused g c =
    no_refusal (λ (w : Surveying). w.sheet) c.walk_trace.new.telling c.one_trace.ensures c.args.max c.in_ok-finish.finish _ _ c.in_ok-finish.ensures.whole c.in_default.not-NotTrace
