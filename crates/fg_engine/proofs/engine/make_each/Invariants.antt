use Rattle.std.proofs.Common.{◌≡◌, []}
use Rattle.fg_engine.specs.Engine.{GrowAll}
use Rattle.fg_engine.proofs.Firsts.{OthersAre}
use Rattle.fg_engine.proofs.Lanes.{AreMade}
use Rattle.fg_engine.proofs.engine.make_each.Given as goal

abbrev pub invariant-loop-i : goal.invariant-loop-i
invariant-loop-i g l = record {
  grow : GrowAll (g.O.Outlet.lanes l.fn.lanes) l.table (λ _. []) (g.O.Outlet.lanes l.lanes);
  others : OthersAre l.table l.i (g.O.Outlet.lanes l.fn.lanes) (g.O.Outlet.lanes l.lanes);
  made : AreMade l.table l.i (g.O.Outlet.lanes l.lanes);
  faults : g.O.Outlet.faults l.lanes ≡ g.O.Outlet.faults l.fn.lanes;
}
