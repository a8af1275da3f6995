use Rattle.std.proofs.Common.{◌≡◌, ℕ, ◌-◌, Option, None, List}
use Rattle.fg_io.specs.Outlet.{Lanes}
use Rattle.fg_engine.specs.Engine.{HasWalked, HasRead}
use Rattle.fg_engine.proofs.engine.Engine.take_all.Given as goal

abbrev pub invariant-loop-tail : goal.invariant-loop-tail
invariant-loop-tail g l = record {
  came : (first : Option (List ℕ)) (before : Option Lanes)
      → HasWalked l.plan first (g.S.Source.left l.fn.input) l.fn.reader l.fn.self before (g.O.Outlet.lanes l.fn.lanes)
      → HasWalked l.plan first (g.S.Source.left l.input) l.reader l.self before (g.O.Outlet.lanes l.lanes);
  far : (first : Option (List ℕ)) → HasRead l.plan.max l.fn.reader first (g.S.Source.left l.fn.input)
      → HasRead l.plan.max l.reader first (g.S.Source.left l.input);
  unkept : l.reader.kept ≡ None;
  max : l.reader.max ≡ l.plan.max;
  reads : g.S.Source.faults l.input ≡ g.S.Source.faults l.fn.input;
  fixed : g.S.Source.fixed l.input ≡ g.S.Source.fixed l.fn.input;
  writes : g.O.Outlet.faults l.lanes ≡ g.O.Outlet.faults l.fn.lanes;
}

abbrev pub decreases-loop-tail : goal.decreases-loop-tail
decreases-loop-tail g l = l.reader.max - l.reader.place
