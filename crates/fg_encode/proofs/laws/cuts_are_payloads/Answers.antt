use Rattle.fg_encode.proofs.StreamPayloadLemmas.{cuts_are_payloads}
use Rattle.fg_encode.proofs.laws.cuts_are_payloads.Goals as goal

pub returns : goal.returns
returns c = cuts_are_payloads
