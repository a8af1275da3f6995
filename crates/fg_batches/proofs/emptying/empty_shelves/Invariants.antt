use Rattle.std.proofs.Common.{◌≡◌, take}
use Rattle.fg_flows.specs.declared.Plan.{Plan}
use Rattle.fg_flows.specs.Plan.{PlanFits}
use Rattle.fg_engine.specs.Engine.{GrowAll}
use Rattle.fg_batches.specs.Batches.{WaitFor, waiting}
use Rattle.fg_batches.proofs.PutShelves.{FirstEmptied}
use Rattle.fg_batches.proofs.emptying.empty_shelves.Given as goal

abbrev pub invariant-loop-shelved : goal.invariant-loop-shelved
invariant-loop-shelved g l = record {
  gains : (plan : Plan) → PlanFits plan → WaitFor plan.table l.fn.shelves
      → GrowAll (g.O.Outlet.lanes l.fn.lanes) plan.table (waiting (take l.shelved-index l.fn.shelves)) (g.O.Outlet.lanes l.lanes);
  empty : FirstEmptied l.shelved-index l.fn.shelves l.shelves;
  writes : g.O.Outlet.faults l.lanes ≡ g.O.Outlet.faults l.fn.lanes;
}
