use Rattle.fg_run.proofs.Behaviours.{no_lane}
use Rattle.fg_run.proofs.Sampled.{sample_answered}
use Rattle.fg_run.proofs.answer.answer_order.Goals as goal

pub returns-in-Sample-clause-answered : goal.returns-in-Sample-clause-answered
returns-in-Sample-clause-answered g c =
    let e = c.sample.ensures in
    rw (c.in-Sample.is, c.into.ensures)
    (sample_answered _ _ _ _ c.sample.result e.whole e.part e.stops e.comes_back e.no_read e.faults)

pub answer_without_lanes-requires-clause-no_lane : goal.answer_without_lanes-requires-clause-no_lane
answer_without_lanes-requires-clause-no_lane g c = no_lane c.args.order c.in_default.not-Repair c.in_default.not-Drill c.in_default.not-Sample
