use Rattle.fg_encode.proofs.LaterLemmas.{one_more_adds, records_later}
use Rattle.fg_encode.proofs.laws.a_payload_more_adds_its_records.Goals as goal

pub returns : goal.returns
returns c = record { unchanged = records_later; adds = one_more_adds }
