use Rattle.std.proofs.Common.{drop, refl}
use Rattle.fg_thin.specs.ThinnedSource.{fixed_of, thinned_trace}
use Rattle.fg_drill.proofs.Drills.{done_drills, done_outputs, part_of_whole, same_ending}
use Rattle.fg_drill.proofs.DrillReading.{done_tells, same_stream}
use Rattle.fg_drill.proofs.FailedReads.{failed_leaves, whole_leaves}
use Rattle.fg_drill.proofs.Repairs.{done_stops}
use Rattle.fg_run.proofs.drill.repair_sent.Goals as goal

pub returns-in-Done-clause-whole : goal.returns-in-Done-clause-whole
returns-in-Done-clause-whole g c =
    done_drills c.args.plan.now _ _ _ _ c.ending.result _ _ _ _ (done_outputs c.args.plan.now _ _ _ _ _ c.in-Done.ensures.repairs.whole)
    (same_ending (fixed_of g.S.Source.fixed c.args.source.now) (fixed_of g.S.Source.fixed c.repair_as_planned.new.input) c.ending.result c.repair_as_planned.ensures.fixed c.ending.ensures.answer)

pub returns-in-Done-clause-part : goal.returns-in-Done-clause-part
returns-in-Done-clause-part g c = λ fault.
    part_of_whole c.one_trace.ensures c.one_result.ensures c.parts_of_writes.ensures.all c.args.plan.now _ _ _ g.K.Sink.written _ _
    (done_outputs c.args.plan.now _ _ _ _ _ c.in-Done.ensures.repairs.whole)

pub returns-in-Done-clause-stops : goal.returns-in-Done-clause-stops
returns-in-Done-clause-stops g c = λ fault.
    done_stops c.one_trace.ensures c.args.plan.now _ _ _ _ _ _ _ _ c.ending.result fault c.ending.ensures.answer (done_outputs c.args.plan.now _ _ _ _ _ c.in-Done.ensures.repairs.whole)

pub returns-in-Done-clause-at_read : goal.returns-in-Done-clause-at_read
returns-in-Done-clause-at_read g c = λ failed.
    whole_leaves c.one_trace.ensures c.args.plan.now _ _ _ _ _ (done_outputs c.args.plan.now _ _ _ _ _ c.in-Done.ensures.repairs.whole)

pub returns-in-ReadFault-clause-at_read : goal.returns-in-ReadFault-clause-at_read
returns-in-ReadFault-clause-at_read g c = λ failed.
    failed_leaves c.args.plan.now _ _ _ _ (c.in-ReadFault.ensures.repairs.at_read refl) c.in-ReadFault.ensures.repairs.reads

pub returns-in-Done-clause-tells : goal.returns-in-Done-clause-tells
returns-in-Done-clause-tells g c =
    let source = c.args.source.now in
    done_tells c.args.plan.now (λ bytes. drop source.given (thinned_trace source.settings source.losses source.max bytes)) source.stream c.repair_as_planned.new.input.stream c.ending.result _ _
    (same_stream (fixed_of g.S.Source.fixed source) (fixed_of g.S.Source.fixed c.repair_as_planned.new.input) c.repair_as_planned.ensures.fixed) c.ending.ensures.tells
