use Rattle.std.proofs.Common.{[], ◌∷◌, subst}
use Rattle.fg_flows.specs.Sheaf.{Item}
use Rattle.fg_batches.specs.BatchView.{BatchView}
use Rattle.fg_batches.specs.Batches.{HasRun}
use Rattle.fg_batches.proofs.Runs.{ran_one, on_ok, on_no_ok}
use Rattle.fg_batches.proofs.flows.BatchFlow.run_item.Goals.{in-Ok, in-Err-Memory}
use Rattle.fg_batches.proofs.flows.BatchFlow.run_item.Goals as goal

pub returns : goal.returns
returns g c =
    let new : BatchView = record { flow = c.take.new.self; shelf = c.take.new.lanes.shelf; starved = c.self.inside.starved } in
    elim c.match-take.branch [
      | in-Ok w ↦
          let item : Item = record { kind = c.args.kind; time = c.args.time; payload = c.args.payload.now } in
          let ran : HasRun (item ∷ []) c.args.self.now new =
          subst (λ (old : BatchView). HasRun (item ∷ []) old new) c.self.view_is
          (ran_one item c.self.inside.flow c.take.new.self c.self.inside.shelved c.take.new.lanes c.self.inside.starved c.self.inside.starved
          c.self.invariant c.take.ensures.still c.take.ensures.port c.take.ensures.playout w.in-Ok.ensures.takes)
          in
          on_ok _ _ ran
      | in-Err-Memory w ↦ on_no_ok _ _ _ w.result-is
    ]
