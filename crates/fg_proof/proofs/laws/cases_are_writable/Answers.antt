use Rattle.fg_proof.proofs.WritableCases as proofs
use Rattle.fg_proof.proofs.laws.cases_are_writable.Goals as goal

pub returns : goal.returns
returns c = proofs.cases_are_writable
