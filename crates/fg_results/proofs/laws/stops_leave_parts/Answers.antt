use Rattle.fg_results.proofs.StoppedParts as parts
use Rattle.fg_results.proofs.laws.stops_leave_parts.Goals as goal

pub returns : goal.returns
returns c = parts.stops_leave_parts c.shown_is_front.ensures c.one_flow_result.ensures c.results_exist.ensures.flow
