use Rattle.fg_drill.proofs.Repairs.{finish_stops}
use Rattle.fg_run.proofs.sample.repair_made.Goals as goal

pub returns-clause-stops : goal.returns-clause-stops
returns-clause-stops g c = finish_stops c.args.plan.now c.repair_as_planned.result _ _ _ c.repair_as_planned.ensures.repairs.stops
