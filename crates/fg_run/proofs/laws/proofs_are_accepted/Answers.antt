use Rattle.fg_run.proofs.AcceptedProofs as proofs
use Rattle.fg_run.proofs.laws.proofs_are_accepted.Goals as goal

pub returns : goal.returns
returns c = proofs.proofs_are_accepted c.proved_cases_are_writable.ensures c.proved_texts_are_accepted.ensures
