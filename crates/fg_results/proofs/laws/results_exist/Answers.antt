use Rattle.fg_results.proofs.Existing.{flow_result_exists, results_exist}
use Rattle.fg_results.proofs.laws.results_exist.Goals as goal

pub returns-clause-flow : goal.returns-clause-flow
returns-clause-flow c =
    flow_result_exists c.media_datagrams_are_decided.ensures c.parity_datagrams_are_decided.ensures c.runs_exist.ensures

pub returns-clause-plan : goal.returns-clause-plan
returns-clause-plan c =
    results_exist c.media_datagrams_are_decided.ensures c.parity_datagrams_are_decided.ensures c.runs_exist.ensures
