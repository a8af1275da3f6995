use Rattle.std.proofs.Common.{◌≡◌, ℕ, ◌<◌, ◌∙◌, Option, List, length, map, set, get_or, arith, slice_index_or, sym, subst}
use Rattle.std.proofs.Math.Seq.{map-set_same}
use Rattle.std.proofs.lemmas.List.{get_or_default}
use Rattle.fg_flows.specs.declared.Plan.{Plan}
use Rattle.fg_flows.specs.Plan.{PlanFits}
use Rattle.fg_io.specs.Outlet.{Lanes}
use Rattle.fg_trace.specs.Trace.{Record}
use Rattle.fg_engine.specs.Engine.{IsFlushing, BreaksAtFlush, HasEnded}
use Rattle.fg_engine.proofs.Flushing.{flushing_more, flushing_stops, flushing_all, flushing_whole, next_stands, underway}
use Rattle.fg_io.proofs.FaultLemmas.{on_ok, on_err}
use Rattle.fg_engine.specs.View.{FlowView}
use Rattle.fg_engine.proofs.engine.flush.Goals as goal

-- a flow that keeps its port leaves the ports as they are
same_ports : (flows : List FlowView) (i : ℕ) (old new : FlowView) → new.sum.port ≡ (get_or flows i old).sum.port → map (λ (flow : FlowView). flow.sum.port) (set flows i new) ≡ map (λ (flow : FlowView). flow.sum.port) flows
same_ports flows i old new same = map-set_same (λ (flow : FlowView). flow.sum.port) flows i new old same

pub flush-requires : goal.flush-requires
flush-requires g c =
    let i = c.loop-flow.flow-index in
    let r = c.requires in
    let old : FlowView = slice_index_or c.loop-flow.flows i c.flow-item.result in
    let short : i < length c.loop-flow.flows = omega arith in
    let h = c.loop-flow.invariant.flushing r.plan r.records r.before r.fits r.flushing in
    record {
      player = tt;
      underway = underway r.plan r.fits r.records _ old _ r.few
          (next_stands r.plan r.records i c.loop-flow.flows r.before _ old h short (get_or_default c.loop-flow.flows i c.flow-item.result old short));
    }

pub returns-in_err-flush-clause-breaks : goal.returns-in_err-flush-clause-breaks
returns-in_err-flush-clause-breaks g c =
    let i = c.loop-flow.flow-index in
    let old : FlowView = slice_index_or c.loop-flow.flows i c.flow-item.result in
    let short : i < length c.loop-flow.flows = omega arith in
    let stops : (plan : Plan) (records : List Record) (before : Option Lanes) → PlanFits plan → IsFlushing plan records 0 c.args.flows.now before (g.O.Outlet.lanes c.args.lanes.now) → BreaksAtFlush plan records before (g.O.Outlet.lanes c.flush.new.lanes) = λ plan records before fits h.
    flushing_stops c.one_flow_has_a_port.ensures plan fits.table records i c.loop-flow.flows before _ _ old short (get_or_default c.loop-flow.flows i c.flow-item.result old short) c.in_err-flush.ensures.breaks
    (c.loop-flow.invariant.flushing plan records before fits h) in
    on_err _ _ stops

pub loop-flow-preserved : goal.loop-flow-preserved
loop-flow-preserved g c =
    let i = c.loop-flow.flow-index in
    let old : FlowView = slice_index_or c.loop-flow.flows i c.flow-item.result in
    let short : i < length c.loop-flow.flows = omega arith in
    record {
      flushing = λ plan records before fits h.
          flushing_more c.one_flow_has_a_port.ensures plan fits.table records i c.loop-flow.flows before _ _ old c.flush.new.self short (get_or_default c.loop-flow.flows i c.flow-item.result old short) c.in_ok-flush.ensures.ends
          (c.loop-flow.invariant.flushing plan records before fits h);
      ports = same_ports c.loop-flow.flows i c.flow-item.result c.flush.new.self c.flush.ensures.port ∙ c.loop-flow.invariant.ports;
      writes = c.in_ok-flush.ensures.faults.no_write (λ e. e) ∙ c.loop-flow.invariant.writes;
    }

pub returns-clause-ends : goal.returns-clause-ends
returns-clause-ends g c =
    let flows = c.loop-flow.flows in
    let ends : (plan : Plan) (records : List Record) (before : Option Lanes) → PlanFits plan → IsFlushing plan records 0 c.args.flows.now before (g.O.Outlet.lanes c.args.lanes.now) → HasEnded plan records flows before (g.O.Outlet.lanes c.close.new.lanes) = λ plan records before fits h.
    subst (HasEnded plan records flows before) (sym c.close.ensures.unchanged)
    (flushing_all plan records c.loop-flow.flow-index flows before _ (omega arith) (c.loop-flow.invariant.flushing plan records before fits h)) in
    on_ok _ _ ends

-- where the lanes can't be closed, all of them are whole
pub returns-clause-breaks : goal.returns-clause-breaks
returns-clause-breaks g c =
    let flows = c.loop-flow.flows in
    let stops : (plan : Plan) (records : List Record) (before : Option Lanes) → PlanFits plan → IsFlushing plan records 0 c.args.flows.now before (g.O.Outlet.lanes c.args.lanes.now) → BreaksAtFlush plan records before (g.O.Outlet.lanes c.close.new.lanes) = λ plan records before fits h.
    subst (BreaksAtFlush plan records before) (sym c.close.ensures.unchanged)
    (flushing_whole c.one_flow_has_a_port.ensures plan fits.table records c.loop-flow.flow-index flows before _ (c.loop-flow.invariant.flushing plan records before fits h)) in
    on_err _ _ stops

pub returns-in_err-flush-clause-ports : goal.returns-in_err-flush-clause-ports
returns-in_err-flush-clause-ports g c =
    let i = c.loop-flow.flow-index in
    same_ports c.loop-flow.flows i c.flow-item.result c.flush.new.self c.flush.ensures.port ∙ c.loop-flow.invariant.ports
