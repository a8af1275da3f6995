use Rattle.std.proofs.Common.{ℕ, Option, [], OnOk, OnErr, sym, subst}
use Rattle.fg_io.specs.Outlet.{Lanes}
use Rattle.fg_engine.specs.Engine.{GrowAll, MakesFirst}
use Rattle.fg_engine.proofs.Firsts.{makes_none}
use Rattle.fg_engine.proofs.Lanes.{grow_none}
use Rattle.fg_io.proofs.FaultLemmas.{on_err}
use Rattle.fg_engine.proofs.engine.make_lanes.Goals as goal

pub returns-in_err-prepare-clause-part : goal.returns-in_err-prepare-clause-part
returns-in_err-prepare-clause-part g c =
    on_err _ _ (subst (GrowAll (g.O.Outlet.lanes c.args.lanes.now) c.args.table.now (λ _. [])) (sym c.prepare.ensures.unchanged) (grow_none _ _))

pub returns-in_err-prepare-clause-first : goal.returns-in_err-prepare-clause-first
returns-in_err-prepare-clause-first g c =
    on_err _ _ (subst (MakesFirst c.args.table.now (g.O.Outlet.lanes c.args.lanes.now)) (sym c.prepare.ensures.unchanged) (makes_none _ _))

pub returns-clause-made : goal.returns-clause-made
returns-clause-made g c =
    subst (λ (was : Option Lanes). OnOk c.make_each.result (GrowAll was c.args.table.now (λ _. []) (g.O.Outlet.lanes c.make_each.new.lanes))) c.prepare.ensures.unchanged c.make_each.ensures.made

pub returns-clause-part : goal.returns-clause-part
returns-clause-part g c =
    subst (λ (was : Option Lanes). OnErr c.make_each.result (GrowAll was c.args.table.now (λ _. []) (g.O.Outlet.lanes c.make_each.new.lanes))) c.prepare.ensures.unchanged c.make_each.ensures.part

pub returns-clause-first : goal.returns-clause-first
returns-clause-first g c =
    subst (λ (was : Option Lanes). OnErr c.make_each.result (MakesFirst c.args.table.now was (g.O.Outlet.lanes c.make_each.new.lanes))) c.prepare.ensures.unchanged c.make_each.ensures.first
