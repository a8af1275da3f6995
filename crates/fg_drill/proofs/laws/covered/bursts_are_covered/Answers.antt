use Rattle.fg_drill.proofs.Bursts as proof
use Rattle.fg_drill.proofs.laws.covered.bursts_are_covered.Goals as goal

pub returns : goal.returns
returns c = proof.bursts_are_covered c.covered_losses_are_few.ensures
