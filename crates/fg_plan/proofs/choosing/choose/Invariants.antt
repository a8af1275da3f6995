use Rattle.fg_plan.specs.Choice.{IsLeastBefore}
use Rattle.fg_plan.proofs.choosing.choose.Given as goal

abbrev pub invariant-loop-columns : goal.invariant-loop-columns
invariant-loop-columns l = IsLeastBefore l.burst l.most l.rows l.columns 0 l.least
