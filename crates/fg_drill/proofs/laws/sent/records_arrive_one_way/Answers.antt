use Rattle.fg_results.specs.Flow.{records_of}
use Rattle.fg_results.proofs.ArrivalLemmas.{one_list_arrives}
use Rattle.fg_drill.proofs.laws.sent.records_arrive_one_way.Goals as goal

pub returns : goal.returns
returns c = λ flow records one other.
    one_list_arrives c.media_datagrams_read_one_way.ensures.one_way c.parity_datagrams_read_one_way.ensures flow (records_of flow records) one other
