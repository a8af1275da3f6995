use Rattle.fg_trace.specs.Finish.{finish_after}
use Rattle.fg_results.specs.Stops.{ByRecord}
use Rattle.fg_engine.specs.Engine.{HasWalked, LanesStop, StandsAtFault}
use Rattle.fg_engine.proofs.Results.{passed_on}
use Rattle.std.proofs.Common.{Option, List, ℕ}
use Rattle.fg_io.specs.Outlet.{Lanes}
use Rattle.fg_io.specs.declared.fault.Fault.{Fault}
use Rattle.fg_engine.proofs.engine.Engine.take_all.Goals as goal

pub returns-in_err-tail-clause-stops : goal.returns-in_err-tail-clause-stops
returns-in_err-tail-clause-stops g c =
    passed_on (λ (fault : Fault). (first : Option (List ℕ)) (before : Option Lanes) → HasWalked c.args.plan.now first (g.S.Source.left c.args.input.now) c.args.reader.now c.args.self.now before (g.O.Outlet.lanes c.args.lanes.now)
    → LanesStop ByRecord c.args.plan.now (finish_after fault) first before (g.O.Outlet.lanes c.take_next.new.lanes))
    c.from_residual.result c.in_err-tail.field-0.0 c.from_residual.ensures.1
    (λ first before h. c.in_err-tail.ensures.stops first before (c.loop-tail.invariant.came first before h))

pub returns-in_err-tail-clause-at_read : goal.returns-in_err-tail-clause-at_read
returns-in_err-tail-clause-at_read g c =
    passed_on (λ (fault : Fault). (first : Option (List ℕ)) (before : Option Lanes) → HasWalked c.args.plan.now first (g.S.Source.left c.args.input.now) c.args.reader.now c.args.self.now before (g.O.Outlet.lanes c.args.lanes.now)
    → StandsAtFault c.args.plan.now fault first (g.S.Source.left c.take_next.new.input) before (g.O.Outlet.lanes c.take_next.new.lanes))
    c.from_residual.result c.in_err-tail.field-0.0 c.from_residual.ensures.1
    (λ first before h. c.in_err-tail.ensures.at_read first before (c.loop-tail.invariant.came first before h))
