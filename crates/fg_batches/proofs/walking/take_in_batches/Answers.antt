use Rattle.std.proofs.Common.{◌∙◌, ◌++◌, ℕ, List, Option, map, ap, refl}
use Rattle.fg_io.specs.Outlet.{Lanes}
use Rattle.std.specs.Global.{Vec}
use Rattle.fg_trace.specs.declared.step.Finish.TheVariants.{Memory}
use Rattle.fg_engine.specs.Engine.{IsAtStart}
use Rattle.fg_engine.specs.View.{FlowView}
use Rattle.fg_batches.specs.BatchView.{BatchView}
use Rattle.fg_batches.specs.Walking.{IsReady, unshelved}
use Rattle.fg_batches.proofs.Cases.{fault_then, ok_then}
use Rattle.fg_batches.proofs.Counting.{starved_counts}
use Rattle.fg_batches.proofs.Ready.{begins_ready, begins_stopped, ends_taken, starved_at_read, starved_stops}
use Rattle.fg_batches.proofs.walking.take_in_batches.Goals as goal
use Rattle.fg_batches.proofs.walking.take_in_batches.Goals.{In-Ok}

-- The stages begin where nothing was taken yet.
ready :
    (g : _) (c : In-Ok g) (first : Option (List ℕ)) (before : Option Lanes)
    → IsAtStart c.args.plan.now first (g.S.Source.left c.args.input.now) c.args.reader c.args.engine.now before (g.O.Outlet.lanes c.args.lanes.now)
    → IsReady c.args.plan.now first (g.S.Source.left c.args.input.now) c.args.reader c.in-Ok.parts.gathering c.in-Ok.parts.flows.items before
    (g.O.Outlet.lanes c.args.lanes.now)
ready g c first before start =
    begins_ready c.args.plan.now first _ c.args.reader c.args.engine.now c.in-Ok.parts.gathering c.in-Ok.parts.flows.items before _
    (c.in-Ok.ensures.flows ∙ ap (λ (flows : Vec FlowView). map unshelved flows.items) c.replace-flows.ensures.value) c.in-Ok.ensures.gathering start

pub returns-in_default-clause-stops : goal.returns-in_default-clause-stops
returns-in_default-clause-stops g c = λ first before h.
    begins_stopped c.walks_the_front.ensures c.args.plan.now Memory first _ c.args.reader c.args.engine.now before _ c.requires.max h

pub returns-in_default-clause-at_read : goal.returns-in_default-clause-at_read
returns-in_default-clause-at_read g c = λ first before h read. absurd cc

pub run_stages-taken-requires-clause-ready : goal.run_stages-taken-requires-clause-ready
run_stages-taken-requires-clause-ready g c κs within =
    let start = c.requires.start in (
      start.0,
      start.1,
      ready g (goal.at.run_stages-taken-requires-clause-ready g c).In-Ok start.0 start.1 start.2,
    )

pub returns-in-Ok-flows_alone-clause-whole : goal.returns-in-Ok-flows_alone-clause-whole
returns-in-Ok-flows_alone-clause-whole g c =
    ok_then _ _ c.run_stages-taken.result
    (λ tail whole first before h.
    ends_taken c.args.plan.now first _ c.run_stages-taken.new.player.flows.items _ tail before _
    (c.in-Ok-flows_alone.ensures ∙ ap (λ (xs : List FlowView). xs ++ map (λ (flow : BatchView). flow.flow) c.run_stages-taken.new.player.flows.items) c.in-Ok.ensures.left) refl
    (whole first before (ready g (goal.at.returns-in-Ok-flows_alone-clause-whole g c).In-Ok first before h)))
    c.run_stages-taken.ensures.whole

pub returns-in-Ok-flows_alone-clause-stops : goal.returns-in-Ok-flows_alone-clause-stops
returns-in-Ok-flows_alone-clause-stops g c =
    fault_then _ _ c.run_stages-taken.result
    (λ fault stops first before h. stops first before (ready g (goal.at.returns-in-Ok-flows_alone-clause-stops g c).In-Ok first before h))
    c.run_stages-taken.ensures.stops

pub returns-in-Ok-flows_alone-clause-at_read : goal.returns-in-Ok-flows_alone-clause-at_read
returns-in-Ok-flows_alone-clause-at_read g c =
    fault_then _ _ c.run_stages-taken.result
    (λ fault reads first before h. reads first before (ready g (goal.at.returns-in-Ok-flows_alone-clause-at_read g c).In-Ok first before h))
    c.run_stages-taken.ensures.at_read

pub returns-clause-stops : goal.returns-clause-stops
returns-clause-stops g c =
    let plan = c.args.plan.now in
    let left = g.S.Source.left c.args.input.now in
    let lanes = g.O.Outlet.lanes c.args.lanes.now in
    rw c.starve.ensures
    (starved_stops c.one_trace.ensures plan c.run_stages-taken.new.player.flows.items _ _
    (λ first before. IsReady plan first left c.args.reader c.in-Ok.parts.gathering c.in-Ok.parts.flows.items before lanes)
    (λ first before. IsAtStart plan first left c.args.reader c.args.engine.now before lanes) c.run_stages-taken.result
    (ready g (goal.at.returns-clause-stops g c).In-Ok)
    c.run_stages-taken.ensures.whole c.run_stages-taken.ensures.stops)

pub returns-clause-at_read : goal.returns-clause-at_read
returns-clause-at_read g c =
    let plan = c.args.plan.now in
    let left = g.S.Source.left c.args.input.now in
    let lanes = g.O.Outlet.lanes c.args.lanes.now in
    rw c.starve.ensures
    (starved_at_read plan _
    (λ first before. IsReady plan first left c.args.reader c.in-Ok.parts.gathering c.in-Ok.parts.flows.items before lanes)
    (λ first before. IsAtStart plan first left c.args.reader c.args.engine.now before lanes) _ c.run_stages-taken.result
    (ready g (goal.at.returns-clause-at_read g c).In-Ok)
    c.run_stages-taken.ensures.at_read)

pub returns-clause-faults : goal.returns-clause-faults
returns-clause-faults g c =
    rw c.starve.ensures (starved_counts c.run_stages-taken.result _ _ c.run_stages-taken.ensures.faults)
