use Rattle.fg_thin.proofs.PayloadLemmas.{cut_payloads, has_cut}
use Rattle.fg_thin.proofs.laws.payloads.payloads_are_the_cut.Goals as goal

pub returns-clause-cut : goal.returns-clause-cut
returns-clause-cut c = cut_payloads

pub returns-clause-there : goal.returns-clause-there
returns-clause-there c = has_cut
