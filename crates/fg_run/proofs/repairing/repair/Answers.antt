use Rattle.fg_run.proofs.Repaired.{repair_answered}
use Rattle.fg_run.proofs.repairing.repair.Goals as goal

pub returns : goal.returns
returns g c =
    rw c.into.ensures (repair_answered c.repairs_come_back.ensures c.args.plan.now c.repair_as_planned-finish.result c.repair_as_planned-finish.ensures.repairs c.repair_as_planned-finish.ensures.faults)
