use Rattle.std.proofs.Common.{◌≡◌, List, subst, sym}
use Rattle.fg_trace.specs.Trace.{Record}
use Rattle.fg_flows.specs.Plan.{playout_of}
use Rattle.fg_results.specs.Repair.{AreResults}
use Rattle.fg_results.proofs.Fronts.{one_of_each}
use Rattle.fg_results.proofs.laws.one_result.Goals as goal

pub returns : goal.returns
returns c = λ plan bytes records others end end' one other h k a b.
    let same : records ≡ others = (c.one_trace.ensures bytes plan.max records others end end' h k).0 in
    one_of_each c.one_flow_result.ensures (playout_of plan) records plan.table one other a
    (subst (λ (t : List Record). AreResults plan t other) (sym same) b)
