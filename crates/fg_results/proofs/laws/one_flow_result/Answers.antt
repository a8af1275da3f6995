use Rattle.fg_results.proofs.Fronts as fronts
use Rattle.fg_results.proofs.laws.one_flow_result.Goals as goal

pub returns : goal.returns
returns c = fronts.one_flow_result c.media_datagrams_read_one_way.ensures.one_way c.parity_datagrams_read_one_way.ensures c.one_run.ensures c.one_list_of_gaps.ensures.one
