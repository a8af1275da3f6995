use Rattle.std.proofs.Common.{◌∙◌, List, subst}
use Rattle.fg_io.proofs.FaultLemmas.{on_err}
use Rattle.fg_io.specs.Sink.{Gains, GainsPart}
use Rattle.fg_trace.specs.Trace.{Record}
use Rattle.fg_survey.specs.Steps.{IsSheet}
use Rattle.fg_survey.specs.Text.{survey_text}
use Rattle.fg_survey.proofs.walk.write_text.Goals as goal

pub returns-in_err-write_all-clause-part : goal.returns-in_err-write_all-clause-part
returns-in_err-write_all-clause-part g c =
    let part : (records : List Record) (kept : IsSheet c.args.sheet.now records) → GainsPart (g.K.Sink.written c.args.out.now) (survey_text c.args.json kept.heard c.args.tail) (g.K.Sink.written c.write_all.new.sink) = λ records kept.
    subst (λ (t : List _). GainsPart (g.K.Sink.written c.args.out.now) t (g.K.Sink.written c.write_all.new.sink)) (c.deref.ensures.value ∙ c.in_ok-text.ensures records kept) c.in_err-write_all.ensures.part in
    on_err _ _ part

pub returns-clause-whole : goal.returns-clause-whole
returns-clause-whole g c = λ records kept.
    subst (λ (t : List _). Gains (g.K.Sink.written c.args.out.now) t (g.K.Sink.written c.write_all.new.sink)) (c.deref.ensures.value ∙ c.in_ok-text.ensures records kept) c.in_ok-write_all.ensures.whole
