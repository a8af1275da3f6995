use Rattle.std.proofs.Common.{◌≡◌, Option, List, map}
use Rattle.fg_flows.specs.declared.Plan.{Plan}
use Rattle.fg_flows.specs.Plan.{PlanFits}
use Rattle.fg_io.specs.Outlet.{Lanes}
use Rattle.fg_trace.specs.Trace.{Record}
use Rattle.fg_engine.specs.Engine.{IsFlushing}
use Rattle.fg_engine.specs.View.{FlowView}
use Rattle.fg_engine.proofs.engine.flush.Given as goal

abbrev pub invariant-loop-flow : goal.invariant-loop-flow
invariant-loop-flow g l = record {
  flushing : (plan : Plan) (records : List Record) (before : Option Lanes) → PlanFits plan
      → IsFlushing plan records 0 l.fn.flows before (g.O.Outlet.lanes l.fn.lanes)
      → IsFlushing plan records l.flow-index l.flows before (g.O.Outlet.lanes l.lanes);
  ports : map (λ (flow : FlowView). flow.sum.port) l.flows ≡ map (λ (flow : FlowView). flow.sum.port) l.fn.flows;
  writes : g.O.Outlet.faults l.lanes ≡ g.O.Outlet.faults l.fn.lanes;
}
