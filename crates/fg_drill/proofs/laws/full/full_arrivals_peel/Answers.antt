use Rattle.fg_drill.proofs.InFull as proof
use Rattle.fg_drill.proofs.laws.full.full_arrivals_peel.Goals as goal

pub returns : goal.returns
returns c = proof.full_arrivals_peel c.runs_exist.ensures c.runs_are_lawful.ensures
