use Rattle.std.proofs.Common.{◌≡◌, ◌++◌, List, ap, ◌∙◌, subst}
use Rattle.fg_io.specs.Sink.{GainsPart}
use Rattle.fg_report.specs.declared.flow_sum.FlowSum.{FlowSum}
use Rattle.fg_report.specs.Text.{report_of}
use Rattle.fg_engine.specs.Engine.{sums_of}
use Rattle.fg_engine.proofs.records.report.Goals as goal

pub returns-in-Err-WriteFault-clause-part : goal.returns-in-Err-WriteFault-clause-part
returns-in-Err-WriteFault-clause-part g c =
    let all = sums_of c.args.engine.flows.items in
    let same : c.deref.result.now ≡ all = c.deref.ensures.value ∙ c.in_ok-sums.ensures ∙ ap (λ (t : List FlowSum). t ++ all) c.requires in
    subst (λ (sums : List FlowSum). GainsPart (g.K.Sink.written c.args.out.now) (report_of sums c.args.engine.other c.args.tail) (g.K.Sink.written c.write_report.new.out)) same c.in-Err-WriteFault.ensures.part

pub returns-clause-part : goal.returns-clause-part
returns-clause-part g c =
    let all = sums_of c.args.engine.flows.items in
    let same : c.deref.result.now ≡ all = c.deref.ensures.value ∙ c.in_ok-sums.ensures ∙ ap (λ (t : List FlowSum). t ++ all) c.requires in
    subst (λ (sums : List FlowSum). GainsPart (g.K.Sink.written c.args.out.now) (report_of sums c.args.engine.other c.args.tail) (g.K.Sink.written c.write_report.new.out)) same c.in-Err-Memory.ensures.part
