use Rattle.std.proofs.Common.{◌<◌, ◌∙◌, ℕ, slice_index_or, sym, subst}
use Rattle.std.specs.Bool.{OnFalse}
use Rattle.std.proofs.lemmas.Bool.{OnFalse_at}
use Rattle.fg_flows.specs.Sheaf.{items_of}
use Rattle.fg_batches.specs.BatchView.{BatchView}
use Rattle.fg_batches.specs.Batches.{HasRun}
use Rattle.fg_batches.proofs.Runs.{not_starved}
use Rattle.fg_batches.proofs.running.run_flows.Goals as goal

pub returns : goal.returns
returns g c = λ (k : ℕ) (d : BatchView) within.
    let items = items_of c.args.sheaf.now k in
    let old : BatchView = slice_index_or c.args.flows.now k d in
    let new : BatchView = slice_index_or c.for_each_mut.new.s k d in
    let step = (c.for_each_mut.ensures k d within).1 in
    let ran : OnFalse new.starved (HasRun items old new) =
    subst (λ (x : BatchView). OnFalse new.starved (HasRun items x new)) step.argument_is
    (subst (λ (y : BatchView). OnFalse y.starved (HasRun items step.argument.now y)) step.left step.call)
    in
    OnFalse_at (not_starved c.for_each_mut.new.s k d (sym c.is_any_starved.ensures ∙ c.if-is_any_starved.false) (subst (λ n. k < n) (sym c.for_each_mut.auto.s) within)) ran
