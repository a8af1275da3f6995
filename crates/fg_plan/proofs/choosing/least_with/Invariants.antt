use Rattle.fg_plan.specs.Choice.{IsLeastBefore}
use Rattle.fg_plan.proofs.choosing.least_with.Given as goal

abbrev pub invariant-loop-height : goal.invariant-loop-height
invariant-loop-height l = IsLeastBefore l.burst l.most l.rows l.columns l.height l.least
