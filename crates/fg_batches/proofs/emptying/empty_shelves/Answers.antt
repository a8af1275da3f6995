use Rattle.std.proofs.Common.{◌≡◌, ◌<◌, ◌∙◌, length, refl, arith, slice_index_or}
use Rattle.std.proofs.lemmas.List.{get_or_default}
use Rattle.fg_flows.specs.declared.Plan.{Plan}
use Rattle.fg_flows.specs.Plan.{PlanFits}
use Rattle.fg_io.proofs.FaultLemmas.{on_err}
use Rattle.fg_engine.specs.declared.shelved.Shelved.{Shelved}
use Rattle.fg_batches.specs.Batches.{WaitFor, BreaksEmptying}
use Rattle.fg_batches.proofs.PutShelves.{empties_none, empties_more, empties_part, empties_all, none_emptied, next_is, emptied_more, all_emptied}
use Rattle.fg_batches.proofs.emptying.empty_shelves.Goals as goal

pub loop-shelved-init : goal.loop-shelved-init
loop-shelved-init g c = record {
  gains = λ (plan : Plan) fits on. empties_none (g.O.Outlet.lanes c.args.lanes.now) plan.table c.args.shelves.now;
  empty = none_emptied c.args.shelves.now;
  writes = refl;
}

pub returns-in_err-empty_shelf-clause-part : goal.returns-in_err-empty_shelf-clause-part
returns-in_err-empty_shelf-clause-part g c =
    let i = c.loop-shelved.shelved-index in
    let h = c.loop-shelved.invariant in
    let x : Shelved = slice_index_or c.loop-shelved.shelves i c.shelved-item.result in
    let short : i < length c.loop-shelved.shelves = omega arith in
    let at : x ≡ slice_index_or c.loop-shelved.shelves i x = get_or_default c.loop-shelved.shelves i c.shelved-item.result x short in
    let part : (plan : Plan) → PlanFits plan → WaitFor plan.table c.args.shelves.now → BreaksEmptying plan.table c.args.shelves.now (g.O.Outlet.lanes c.args.lanes.now) (g.O.Outlet.lanes c.empty_shelf.new.lanes) =
    λ (plan : Plan) (fits : PlanFits plan) (on : WaitFor plan.table c.args.shelves.now).
    let inside : i < length plan.table = omega (arith, on.long, h.empty.long, c.loop-shelved-test.true) in
    empties_part c.one_flow_has_a_port.ensures plan.table fits.table c.args.shelves.now on i x (g.O.Outlet.lanes c.args.lanes.now) (g.O.Outlet.lanes c.loop-shelved.lanes) (g.O.Outlet.lanes c.empty_shelf.new.lanes) inside
    (next_is i c.args.shelves.now c.loop-shelved.shelves x h.empty at) (h.gains plan fits on) c.in_err-empty_shelf.ensures.part
    in
    on_err _ _ part

pub loop-shelved-preserved : goal.loop-shelved-preserved
loop-shelved-preserved g c =
    let i = c.loop-shelved.shelved-index in
    let h = c.loop-shelved.invariant in
    let x : Shelved = slice_index_or c.loop-shelved.shelves i c.shelved-item.result in
    let short : i < length c.loop-shelved.shelves = omega arith in
    let at : x ≡ slice_index_or c.loop-shelved.shelves i x = get_or_default c.loop-shelved.shelves i c.shelved-item.result x short in
    record {
      gains = λ (plan : Plan) (fits : PlanFits plan) (on : WaitFor plan.table c.args.shelves.now).
          let inside : i < length plan.table = omega (arith, on.long, h.empty.long, c.loop-shelved-test.true) in
          empties_more c.one_flow_has_a_port.ensures plan.table fits.table c.args.shelves.now on i x (g.O.Outlet.lanes c.args.lanes.now) (g.O.Outlet.lanes c.loop-shelved.lanes) (g.O.Outlet.lanes c.empty_shelf.new.lanes) inside
          (next_is i c.args.shelves.now c.loop-shelved.shelves x h.empty at) (h.gains plan fits on) c.in_ok-empty_shelf.ensures.puts;
      empty = emptied_more i c.args.shelves.now c.loop-shelved.shelves x c.empty_shelf.new.shelved short at c.empty_shelf.ensures.empty h.empty;
      writes = c.in_ok-empty_shelf.ensures.faults.no_write (λ e. e) ∙ h.writes;
    }

pub returns-clause-puts : goal.returns-clause-puts
returns-clause-puts g c = λ (plan : Plan) fits on.
    let h = c.loop-shelved.invariant in
    empties_all c.loop-shelved.shelved-index plan.table c.args.shelves.now (g.O.Outlet.lanes c.args.lanes.now) (g.O.Outlet.lanes c.loop-shelved.lanes) (omega (arith, h.empty.long, c.loop-shelved-test.false)) (h.gains plan fits on)

pub returns-clause-empty : goal.returns-clause-empty
returns-clause-empty g c =
    all_emptied c.loop-shelved.shelved-index c.args.shelves.now c.loop-shelved.shelves (omega arith) c.loop-shelved.invariant.empty
