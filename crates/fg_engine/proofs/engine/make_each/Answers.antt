use Rattle.std.proofs.Common.{ℕ, [], ◌<◌, ◌∙◌, subst, length, slice_index, arith, refl}
use Rattle.fg_io.specs.Outlet.{Puts, PutsPart}
use Rattle.fg_engine.proofs.Firsts.{others_none, others_more, makes_first}
use Rattle.fg_engine.proofs.Lanes.{grow_none, grow_still, made_none, made_more, made_all, contains_at, puts_grows, puts_part_grows}
use Rattle.fg_io.proofs.FaultLemmas.{on_err}
use Rattle.fg_engine.proofs.engine.make_each.Goals as goal

pub loop-i-init : goal.loop-i-init
loop-i-init g c = record { grow = grow_none _ _; others = others_none c.args.table.now _; made = made_none _ _; faults = refl }

pub returns-in_err-put-clause-part : goal.returns-in_err-put-clause-part
returns-in_err-put-clause-part g c =
    let i = c.loop-i.i in
    let below : i < length c.args.table.now = omega arith in
    let failed : PutsPart (g.O.Outlet.lanes c.loop-i.lanes) (slice_index c.args.table.now i) [] (g.O.Outlet.lanes c.put.new.lanes) = subst (λ (p : ℕ). PutsPart (g.O.Outlet.lanes c.loop-i.lanes) p [] (g.O.Outlet.lanes c.put.new.lanes)) c.port.ensures c.in_err-put.ensures.failed in
    on_err _ _ (grow_still _ _ _ c.args.table.now (λ _. []) (slice_index c.args.table.now i) (contains_at c.args.table.now i below) c.loop-i.invariant.grow
    (puts_part_grows (slice_index c.args.table.now i) _ _ failed))

pub returns-in_err-put-clause-first : goal.returns-in_err-put-clause-first
returns-in_err-put-clause-first g c =
    let i = c.loop-i.i in
    let below : i < length c.args.table.now = omega arith in
    let failed : PutsPart (g.O.Outlet.lanes c.loop-i.lanes) (slice_index c.args.table.now i) [] (g.O.Outlet.lanes c.put.new.lanes) = subst (λ (p : ℕ). PutsPart (g.O.Outlet.lanes c.loop-i.lanes) p [] (g.O.Outlet.lanes c.put.new.lanes)) c.port.ensures c.in_err-put.ensures.failed in
    let grows = puts_part_grows (slice_index c.args.table.now i) _ _ failed in
    on_err _ _ (makes_first c.args.table.now i _ _ _ below
    (grow_still _ _ _ c.args.table.now (λ _. []) (slice_index c.args.table.now i) (contains_at c.args.table.now i below) c.loop-i.invariant.grow grows)
    c.loop-i.invariant.others c.loop-i.invariant.made grows)

pub loop-i-preserved : goal.loop-i-preserved
loop-i-preserved g c =
    let i = c.loop-i.i in
    let below : i < length c.args.table.now = omega arith in
    let puts : Puts (g.O.Outlet.lanes c.loop-i.lanes) (slice_index c.args.table.now i) [] (g.O.Outlet.lanes c.put.new.lanes) = subst (λ (p : ℕ). Puts (g.O.Outlet.lanes c.loop-i.lanes) p [] (g.O.Outlet.lanes c.put.new.lanes)) c.port.ensures c.in_ok-put.ensures.puts in
    record {
      grow = grow_still _ _ _ c.args.table.now (λ _. []) (slice_index c.args.table.now i) (contains_at c.args.table.now i below) c.loop-i.invariant.grow
          (puts_grows (slice_index c.args.table.now i) _ _ puts);
      others = others_more c.args.table.now i _ _ _ below c.loop-i.invariant.others (puts_grows (slice_index c.args.table.now i) _ _ puts);
      made = made_more c.args.table.now _ _ i c.loop-i.invariant.made puts;
      faults = c.in_ok-put.ensures.faults.no_write (λ e. e) ∙ c.loop-i.invariant.faults;
    }

pub returns-clause-there : goal.returns-clause-there
returns-clause-there g c =
    made_all c.args.table.now _ c.loop-i.i (omega arith) c.loop-i.invariant.made
