use Rattle.fg_drill.proofs.Repairs.{repairs_come_back}
use Rattle.fg_drill.proofs.laws.drills.repairs_come_back.Goals as goal

pub returns : goal.returns
returns c = repairs_come_back c.thinned_traces_come_back.ensures.read c.thinned_traces_come_back.ensures.comes_back
