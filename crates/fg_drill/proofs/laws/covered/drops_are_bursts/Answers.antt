use Rattle.fg_drill.proofs.Bursts as proof
use Rattle.fg_drill.proofs.laws.covered.drops_are_bursts.Goals as goal

pub returns : goal.returns
returns c = proof.drops_are_bursts
