use Rattle.fg_thin.proofs.PayloadLemmas.{first_payloads}
use Rattle.fg_thin.proofs.laws.payloads.first_payloads_are_taken_first.Goals as goal

pub returns : goal.returns
returns c = λ packets max bytes payloads some h. (_, first_payloads packets max bytes payloads some h)
