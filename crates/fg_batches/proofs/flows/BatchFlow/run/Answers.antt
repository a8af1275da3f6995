use Rattle.std.proofs.Common.{◌≡◌, ◌∙◌, false, sym, subst}
use Rattle.std.proofs.lemmas.Bool.{OnFalse_from}
use Rattle.fg_flows.specs.Sheaf.{items_of}
use Rattle.fg_batches.specs.BatchView.{BatchView}
use Rattle.fg_batches.specs.Batches.{HasRun}
use Rattle.fg_batches.proofs.Runs.{ran_marked, where_ok}
use Rattle.fg_batches.proofs.flows.BatchFlow.run.Goals as goal

pub returns : goal.returns
returns g c =
    let items = items_of c.args.sheaf.now c.args.index in
    let starved = c.is_err-self-inside.result in
    OnFalse_from starved _ (λ (e : starved ≡ false).
    let inside : BatchView = record { flow = c.self.inside.flow; shelf = c.self.inside.shelved.shelf; starved = c.self.inside.starved } in
    let ran : HasRun items c.args.self.now c.run_items.new.self =
    where_ok c.run_items.result _ (sym c.is_err-self-inside.ensures.value ∙ e) c.run_items.ensures
    in
    ran_marked items c.args.self.now inside starved (subst (λ (new : BatchView). HasRun items c.args.self.now new) (sym c.self.view_is) ran))
