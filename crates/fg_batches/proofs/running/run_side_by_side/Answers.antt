use Rattle.std.proofs.Common.{◌<◌, ℕ, length}
use Rattle.std.specs.List.{slice_index_or}
use Rattle.fg_io.proofs.FaultLemmas.{ok_more}
use Rattle.fg_flows.specs.Sheaf.{items_of}
use Rattle.fg_batches.specs.BatchView.{BatchView}
use Rattle.fg_batches.specs.Batches.{HasRun, HaveRun}
use Rattle.fg_batches.proofs.running.run_side_by_side.Goals as goal

pub returns : goal.returns
returns g c =
    let sheaf = c.args.sheaf.now in
    let old = c.args.flows.now in
    let new = c.run_flows.new.flows in
    ok_more c.run_flows.result ((k : ℕ) (d : BatchView) → k < length old → HasRun (items_of sheaf k) (slice_index_or old k d) (slice_index_or new k d))
    (HaveRun sheaf old new) (λ each. record { count = c.run_flows.auto.flows; each = each }) c.run_flows.ensures
