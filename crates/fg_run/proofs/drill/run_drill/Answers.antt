use Rattle.std.proofs.Common.{◌≡◌, ◌∙◌, Option, IfSome, List, ℕ, ap, arith, rules, subst, sym}
use Rattle.std.specs.Io.KnownBytes.{IsAtEnd}
use Rattle.fg_encode.specs.Reading.{IsStreamReadFor}
use Rattle.fg_encode.specs.Stream.{LeavesNothing}
use Rattle.fg_drill.specs.Drill.{ending_of}
use Rattle.fg_shape.specs.declared.encoding.Settings.{Settings}
use Rattle.fg_thin.specs.ThinnedSource.{ThinningState, trace_left}
use Rattle.fg_drill.specs.DrillLaws.{trace_sent}
use Rattle.fg_drill.proofs.Drills.{as_told, drills_part, part_as_told}
use Rattle.fg_drill.proofs.DrillReading.{drill_reads, drill_tells, reads_of, same_max, same_stream}
use Rattle.fg_drill.proofs.FailedReads.{drill_leaves, leaves_as_told}
use Rattle.fg_drill.proofs.Repairs.{drill_stops, stops_as_told}
use Rattle.fg_commands.proofs.Lawful.{not_begun}
use Rattle.fg_run.specs.Drilling.{drilling}
use Rattle.fg_run.proofs.Drilled.{drill_answered, lawful}
use Rattle.fg_run.proofs.drill.run_drill.Goals as goal

-- without memory for the source nothing is begun
pub returns-in_default : goal.returns-in_default
returns-in_default g c =
    let a = c.args in
    not_begun (drilling a.sending.settings a.plan.now a.sending.losses a.sending.max) (lawful a.sending.settings a.plan.now a.sending.losses a.sending.max) _ _ _ _ _ _ _ _ _

pub returns : goal.returns
returns g c =
    let a = c.args in
    let input = g.S.Source.left a.ends.input.now in
    let source = c.of-source.result in
    let of = c.of-source.ensures in
    let answer = c.repair_sent-answer.result in
    let sent = c.repair_sent-answer.ensures in
    let after = c.repair_sent-answer.new.source in
    let max = c.requires.max.1 in
    let left = of.left ∙ ap (λ (t : ThinningState). trace_sent t.settings t.losses t.max input) c.in-Ok.ensures in
    let last : g.S.Source.left c.input-1.given.0 ≡ g.S.Source.left after.inner.now = first_of (search (rules), grind (arith)) in
    let same = same_stream _ _ sent.same in
    let limit = same_max _ _ sent.same ∙ of.max ∙ ap (λ (t : ThinningState). t.max) c.in-Ok.ensures in
    let tells = drill_tells c.thinned_traces_are_traces.ensures.stream a.sending.settings a.plan.now a.sending.losses a.sending.max answer input
    (trace_left source) after.stream after.told after.fault c.requires.settings c.requires.inner max left (same ∙ of.stream) sent.tells in
    let read = reads_of a.sending.max answer after.stream input _ (same ∙ of.stream)
    (drill_reads after.max a.sending.max answer after.stream _ after.told after.fault limit tells c.into_inner-input.ensures.reads) in
    let rest : g.S.Source.left c.input-1.given.0 ≡ g.S.Source.left c.into_inner-input.result.now = first_of (search (rules), grind (arith)) in
    rw c.why_of.ensures (drill_answered c.repairs_are_drills.ensures.exactly c.drills_come_back.ensures a.sending.settings a.plan.now a.sending.losses a.sending.max answer
    c.requires.settings c.requires.plan c.requires.flow c.requires.losses max
    (c.repairs_are_drills.ensures.whole a.sending.settings a.plan.now a.sending.losses a.sending.max answer input _ _ _ _
    c.requires.settings c.requires.inner max
    (as_told a.plan.now answer _ _ _ _ source.settings.packets a.sending.settings.packets source.max a.sending.max source.stream input
    (trace_left source) (trace_sent a.sending.settings a.sending.losses a.sending.max input)
    (ap (λ (s : Settings). s.packets) (of.settings ∙ ap (λ (t : ThinningState). t.settings) c.in-Ok.ensures))
    (of.max ∙ ap (λ (t : ThinningState). t.max) c.in-Ok.ensures)
    of.stream left sent.whole))
    (subst (λ (o : Option (List ℕ)). IfSome (ending_of answer) (λ ending. LeavesNothing ending → IsAtEnd o)) (sym last) sent.all_read)
    (subst (λ (o : Option (List ℕ)). IfSome input (λ bytes. IsStreamReadFor a.sending.max (ending_of answer) bytes o)) (sym rest) read)
    (λ fault. drills_part c.thinned_traces_are_traces.ensures.stream c.payloads_are_the_cut.ensures.cut
    a.sending.settings a.plan.now a.sending.losses a.sending.max input _ _ g.K.Sink.written _ _
    c.requires.settings c.requires.inner max
    (part_as_told a.plan.now _ _ g.K.Sink.written _ _ (trace_left source) (trace_sent a.sending.settings a.sending.losses a.sending.max input) left (sent.part fault)))
    (λ fault. drill_stops c.thinned_traces_are_traces.ensures.stream c.payloads_are_the_cut.ensures.cut
    a.sending.settings a.plan.now a.sending.losses a.sending.max answer input _ _
    c.requires.settings c.requires.inner max
    (stops_as_told a.plan.now answer _ _ (trace_left source) (trace_sent a.sending.settings a.sending.losses a.sending.max input) left (sent.stops fault)))
    (λ failed. drill_leaves c.thinned_traces_are_traces.ensures.stream c.payloads_are_the_cut.ensures.cut
    a.sending.settings a.plan.now a.sending.losses a.sending.max input _ _
    c.requires.settings c.requires.inner max
    (leaves_as_told a.plan.now _ _ (trace_left source) (trace_sent a.sending.settings a.sending.losses a.sending.max input) left (sent.at_read failed)))
    (search rules))
