use Rattle.fg_engine.proofs.Writing.{none_stop_any, making_stop_any}
use Rattle.fg_engine.proofs.records.make_ready.Goals as goal

pub returns-in_err-engine-clause-stops : goal.returns-in_err-engine-clause-stops
returns-in_err-engine-clause-stops g c = none_stop_any c.from_residual.result c.args.plan.now (g.O.Outlet.lanes c.args.lanes.now)

pub returns-in_err-sums-clause-stops : goal.returns-in_err-sums-clause-stops
returns-in_err-sums-clause-stops g c = none_stop_any c.from_residual-in_err-sums.result c.args.plan.now (g.O.Outlet.lanes c.args.lanes.now)

pub returns-in_err-make_lanes-clause-stops : goal.returns-in_err-make_lanes-clause-stops
returns-in_err-make_lanes-clause-stops g c =
    making_stop_any c.from_residual-in_err-make_lanes.result c.args.plan.now (g.O.Outlet.lanes c.args.lanes.now) (g.O.Outlet.lanes c.make_lanes.new.lanes)
    c.in_err-make_lanes.ensures.part c.in_err-make_lanes.ensures.first
