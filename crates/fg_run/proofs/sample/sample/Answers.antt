use Rattle.std.proofs.Common.{◌≡◌, ◌∙◌, Ok, Some, List, [], ◌∷◌, ℕ, sym, subst}
use Rattle.fg_io.specs.Faults.{CountsFaults}
use Rattle.fg_io.specs.Sink.{GainsPart}
use Rattle.fg_trace.specs.Trace.{IsTrace, Ended}
use Rattle.fg_thin.specs.ThinnedSource.{trace_left}
use Rattle.fg_drill.specs.Sample.{sample_sent}
use Rattle.fg_drill.proofs.Drills.{part_as_told}
use Rattle.fg_trace.specs.declared.step.Finish.TheVariants as finish
use Rattle.fg_drill.proofs.DrillsBack.{sample_back}
use Rattle.fg_drill.proofs.Repairs.{stops_as_told, stops_first}
use Rattle.fg_drill.proofs.Samples.{samples_part, whole_sample}
use Rattle.fg_drill.proofs.PartLemmas.{no_sample}
use Rattle.fg_run.proofs.sample.sample.Goals as goal

pub returns-in_default-clause-part : goal.returns-in_default-clause-part
returns-in_default-clause-part g c = λ fault.
    no_sample c.args.draw.seed c.args.draw.datagrams c.args.draw.loss c.args.plan.now _ _ _ (c.parts_of_writes.ensures.none _ _)

pub returns-in_default-clause-stops : goal.returns-in_default-clause-stops
returns-in_default-clause-stops g c = λ fault. stops_first c.args.plan.now finish.Memory (sample_sent c.args.draw.seed c.args.draw.datagrams c.args.draw.loss) _

pub returns-in-Ok-write_all-clause-whole : goal.returns-in-Ok-write_all-clause-whole
returns-in-Ok-write_all-clause-whole g c =
    let sends = c.in-Ok.ensures.sends in
    let sent = sample_sent c.args.draw.seed c.args.draw.datagrams c.args.draw.loss in
    whole_sample c.one_trace.ensures c.writes_join.ensures c.args.draw.seed c.args.draw.datagrams c.args.draw.loss c.args.plan.now c.repair_made.result sends.0 c.deref.result.now
    (trace_left c.in-Ok.made.source) _ _ _ _ _ sends.1 (subst (λ n. IsTrace sends.0 n sent Ended) (sym c.requires.inner) sends.2)
    (c.deref.ensures.value ∙ c.in-Ok.ensures.line) c.in-Ok-write_all.ensures.whole c.repair_made.ensures.whole

pub returns-in-Ok-write_all-clause-comes_back : goal.returns-in-Ok-write_all-clause-comes_back
returns-in-Ok-write_all-clause-comes_back g c =
    sample_back c.samples_come_back.ensures c.args.draw.seed c.args.draw.datagrams c.args.draw.loss c.args.plan.now c.repair_made.result _ _ _ _
    c.requires.datagrams.1 c.requires.plan c.requires.flow c.in-Ok.ensures.may_lose
    (returns-in-Ok-write_all-clause-whole g c)

pub returns-in-Ok-write_all-clause-stops : goal.returns-in-Ok-write_all-clause-stops
returns-in-Ok-write_all-clause-stops g c = λ fault.
    let sends = c.in-Ok.ensures.sends in
    let sent = sample_sent c.args.draw.seed c.args.draw.datagrams c.args.draw.loss in
    stops_as_told c.args.plan.now (Ok c.repair_made.result) _ _ (trace_left c.in-Ok.made.source) (Some sends.0) sends.1
    (c.repair_made.ensures.stops fault) sent Ended (subst (λ n. IsTrace sends.0 n sent Ended) (sym c.requires.inner) sends.2)

pub returns-in-Ok-write_all-clause-part : goal.returns-in-Ok-write_all-clause-part
returns-in-Ok-write_all-clause-part g c = λ fault.
    let sends = c.in-Ok.ensures.sends in
    let sent = sample_sent c.args.draw.seed c.args.draw.datagrams c.args.draw.loss in
    samples_part c.writes_join.ensures c.args.draw.seed c.args.draw.datagrams c.args.draw.loss c.args.plan.now sends.0 c.deref.result.now
    _ _ _ g.K.Sink.written c.write_all.new.sink _
    (subst (λ n. IsTrace sends.0 n sent Ended) (sym c.requires.inner) sends.2)
    (c.deref.ensures.value ∙ c.in-Ok.ensures.line) c.in-Ok-write_all.ensures.whole
    (part_as_told c.args.plan.now _ _ g.K.Sink.written _ _ (trace_left c.in-Ok.made.source) (Some sends.0) sends.1
    (c.repair_made.ensures.part fault))

pub returns-clause-stops : goal.returns-clause-stops
returns-clause-stops g c = λ fault. stops_first c.args.plan.now finish.WriteFault (sample_sent c.args.draw.seed c.args.draw.datagrams c.args.draw.loss) _

pub returns-clause-part : goal.returns-clause-part
returns-clause-part g c = λ fault.
    no_sample c.args.draw.seed c.args.draw.datagrams c.args.draw.loss c.args.plan.now _ _ _
    (subst (λ (t : List ℕ). GainsPart (g.K.Sink.written c.args.out.now) t (g.K.Sink.written c.write_all.new.sink))
    (c.deref.ensures.value ∙ c.in-Ok.ensures.line)
    c.in-Err.ensures.part)

pub returns-in-Ok-write_all-clause-faults : goal.returns-in-Ok-write_all-clause-faults
returns-in-Ok-write_all-clause-faults g c =
    subst (λ (n : ℕ). CountsFaults (c.repair_made.result ≡ finish.ReadFault) (c.repair_made.result ≡ finish.WriteFault) []
    ((n, g.K.Sink.faults c.repair_made.new.out) ∷ (g.O.Outlet.faults c.args.lanes.now, g.O.Outlet.faults c.repair_made.new.lanes) ∷ []))
    (c.in-Ok-write_all.ensures.faults.no_write (λ e. e)) c.repair_made.ensures.faults
