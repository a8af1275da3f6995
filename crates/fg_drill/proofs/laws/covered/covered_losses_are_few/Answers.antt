use Rattle.fg_drill.proofs.CoveredGaps.{covered_are_few}
use Rattle.fg_drill.proofs.laws.covered.covered_losses_are_few.Goals as goal

pub returns : goal.returns
returns c = covered_are_few
