use Rattle.fg_prove.proofs.WritableProofs as proofs
use Rattle.fg_prove.proofs.laws.proved_cases_are_writable.Goals as goal

pub returns : goal.returns
returns c = proofs.proved_cases_are_writable c.cases_are_writable.ensures c.runs_show_what_was_admitted.ensures
