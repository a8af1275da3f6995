use Rattle.fg_results.proofs.Gaining.{one_gained}
use Rattle.fg_results.proofs.laws.one_gained.Goals as goal

pub returns : goal.returns
returns c =
    one_gained c.media_datagrams_read_one_way.ensures.one_way c.parity_datagrams_read_one_way.ensures c.one_taking.ensures c.one_flow_result.ensures
