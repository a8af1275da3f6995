use Rattle.std.proofs.Common.{ℕ, List, Option, sym, subst}
use Rattle.fg_io.specs.Outlet.{Lanes}
use Rattle.fg_trace.specs.declared.step.Finish.TheVariants.{Memory}
use Rattle.fg_results.specs.Stops.{ByBatch}
use Rattle.fg_engine.specs.Engine.{LanesStop}
use Rattle.fg_batches.proofs.Beginning.{played_none}
use Rattle.fg_batches.proofs.Cases.{err_all, ok_all}
use Rattle.fg_batches.specs.Stages.{answer_to}
use Rattle.fg_batches.specs.Walking.{IsReady}
use Rattle.fg_batches.proofs.Piped.{Come, stages_come, stages_reach}
use Rattle.fg_batches.proofs.Ready.{ready_stopped}
use Rattle.fg_batches.proofs.walking.run_stages.Goals as goal
use Rattle.fg_batches.proofs.walking.run_stages.Goals.{In-Ok}

pub run_three-requires-clause-turned : goal.run_three-requires-clause-turned
run_three-requires-clause-turned g c κs within =
    let ready = c.requires.ready in (
      c.requires.runs,
      played_none c.args.giver.now.plan.now c.requires.fits ready.0 _ _ _ _ ready.1 _ _ c.args.player.now.starved c.requires.named c.requires.fed ready.2,
    )

-- What the three stages come to.
come :
    (g : _) (c : In-Ok g) (first : Option (List ℕ)) (before : Option Lanes)
    → IsReady c.args.giver.now.plan.now first (g.S.Source.left c.args.input.now) c.args.giver.now.reader c.args.giver.now.gathering
    (g.L.Flows.seen c.args.player.now.flows) before (g.O.Outlet.lanes c.args.lanes.now)
    → Come c.args.giver.now.plan.now first (g.S.Source.left c.run_three.new.from) (g.L.Flows.seen c.run_three.new.maker.flows)
    c.run_three.new.giver.gathering.other before (g.O.Outlet.lanes c.run_three.new.to)
    (answer_to c.run_three.new.giver.end c.run_three.new.maker.starved c.run_three.new.storer.broken)
come g c =
    let piped = c.in-Ok.ensures.piped in
    stages_come c.one_flow_has_a_port.ensures c.one_gained.ensures c.walks_the_front.ensures c.one_trace.ensures c.args.giver.now.plan.now
    c.requires.fits c.requires.named piped.is_given.2 piped.is_turned.1 piped.is_stored piped.took_front piped.stored_front piped.whole
    c.whole_records_are_answered.ensures.answered

pub returns-in-Ok-clause-whole : goal.returns-in-Ok-clause-whole
returns-in-Ok-clause-whole g c =
    let stages = come g (goal.at.returns-in-Ok-clause-whole g c).In-Ok in
    rw c.answer.ensures (ok_all _ _ _ (λ first before h. (stages first before h).whole))

pub returns-in-Ok-clause-stops : goal.returns-in-Ok-clause-stops
returns-in-Ok-clause-stops g c =
    let stages = come g (goal.at.returns-in-Ok-clause-stops g c).In-Ok in
    rw c.answer.ensures (err_all _ _ _ (λ first before h. (stages first before h).stops))

pub returns-in-Ok-clause-at_read : goal.returns-in-Ok-clause-at_read
returns-in-Ok-clause-at_read g c =
    let stages = come g (goal.at.returns-in-Ok-clause-at_read g c).In-Ok in
    rw c.answer.ensures (err_all _ _ _ (λ first before h. (stages first before h).at_read))

pub returns-in-Ok-clause-reaches : goal.returns-in-Ok-clause-reaches
returns-in-Ok-clause-reaches g c =
    let piped = c.in-Ok.ensures.piped in
    rw c.answer.ensures
    (stages_reach c.one_flow_has_a_port.ensures c.one_gained.ensures c.walks_the_front.ensures c.one_trace.ensures c.args.giver.now.plan.now
    c.requires.fits c.requires.named piped.is_given.2 piped.is_turned.1 piped.is_stored piped.took_front piped.stored_front piped.whole)

pub returns-in-Err-clause-stops : goal.returns-in-Err-clause-stops
returns-in-Err-clause-stops g c = λ first before h.
    let refused = c.in-Err.ensures.refused in
    subst (λ (to : _). LanesStop ByBatch c.args.giver.now.plan.now Memory first before (g.O.Outlet.lanes to)) (sym refused.4)
    (ready_stopped c.walks_the_front.ensures c.args.giver.now.plan.now Memory first _ _ _ _ before _ c.requires.max h)

pub returns-in-Err-clause-at_read : goal.returns-in-Err-clause-at_read
returns-in-Err-clause-at_read g c = λ first before h read. absurd cc
