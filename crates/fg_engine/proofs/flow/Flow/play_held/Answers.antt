use Rattle.std.proofs.Common.{◌≡◌, ◌≢◌, ℕ, refl, sym, ap, subst, ◌∙◌}
use Rattle.fg_io.proofs.FaultLemmas.{on_err}
use Rattle.fg_playout.specs.Laws.{AreHeldSteps}
use Rattle.fg_playout.specs.Run.{ArePlaysHeld, unlimited}
use Rattle.fg_engine.specs.View.{FlowView}
use Rattle.fg_engine.proofs.Admitting.{held_off}
use Rattle.fg_engine.proofs.Rounds.{IsRound, broken, farther, goes_on, held_round, keeps, skips_within}
use Rattle.fg_engine.proofs.Showing.{shown_none, breaks_off, held_after}
use Rattle.fg_engine.proofs.flow.Flow.play_held.Goals as goal
use Rattle.fg_engine.proofs.flow.Flow.play_held.Goals.{After-skip_held-skipped}

-- A word may wait only for so long.
limited : {old flow : FlowView} {hold : ℕ} → flow ≡ old → hold ≡ flow.state.playout.hold → hold ≢ 0 → old.state.playout.hold ≢ 0
limited is same some = subst (λ (flow : FlowView). flow.state.playout.hold ≢ 0) is (λ none. some (same ∙ none))

-- One round of the loop.
round :
    (g : _) (c : After-skip_held-skipped g)
    → IsRound (AreHeldSteps c.args.self.now.state c.args.time) (g.D.WindowState.state c.loop-played.self-inside.window) c.in-Some.played
    (g.D.WindowState.shows c.held_step.new.self c.in-Some.played) (g.D.WindowState.state c.held_step.new.self) c.skip_held-skipped.result
    (g.D.WindowState.state c.skip_held-skipped.new.self)
round g c =
    held_round c.in-Some.played c.skip_held-skipped.result c.in-Some.ensures.count c.skip_held-skipped.ensures.positions
    c.args.time c.runs_join.ensures.held c.requires.within (limited c.self.view_is c.hold.ensures c.if-hold-eq0.false) c.loop-played.invariant c.in-Some.ensures.held c.skip_held-skipped.ensures.held

pub returns-then-hold-eq0-clause-plays : goal.returns-then-hold-eq0-clause-plays
returns-then-hold-eq0-clause-plays g c =
    let old = c.args.self.now in
    let none : old.state.playout.hold ≡ 0 =
    sym (ap (λ (flow : FlowView). flow.state.playout.hold) c.self.view_is) ∙ sym c.hold.ensures ∙ c.if-hold-eq0.true in
    shown_none (ArePlaysHeld old.state c.args.time) old.state old.sum (g.P.Player.lanes c.args.lanes.now) (unlimited none refl refl)

pub loop-played-smaller : goal.loop-played-smaller
loop-played-smaller g c = farther (round g (goal.at.loop-played-smaller g c).After-skip_held-skipped)

pub returns-in_err-count_skipped-clause-playout : goal.returns-in_err-count_skipped-clause-playout
returns-in_err-count_skipped-clause-playout g c = keeps (round g (goal.at.returns-in_err-count_skipped-clause-playout g c).After-skip_held-skipped) c.loop-played.invariant

pub returns-in_err-put_play-clause-breaks : goal.returns-in_err-put_play-clause-breaks
returns-in_err-put_play-clause-breaks g c =
    let join = held_after _ _ _ c.args.time _ c.runs_join.ensures.held c.in-Some.ensures.held in
    on_err _ _ (held_off c.args.self.now.state c.args.time (limited c.self.view_is c.hold.ensures c.if-hold-eq0.false)
    (breaks_off c.loop-played.invariant join c.in_err-put_play.ensures.part))

pub count_skipped-requires : goal.count_skipped-requires
count_skipped-requires g c = skips_within (round g (goal.at.count_skipped-requires g c).After-skip_held-skipped) c.loop-played.invariant c.in_ok-put_play.ensures.counts

pub returns-in_err-count_skipped-clause-breaks : goal.returns-in_err-count_skipped-clause-breaks
returns-in_err-count_skipped-clause-breaks g c =
    on_err _ _ (held_off c.args.self.now.state c.args.time (limited c.self.view_is c.hold.ensures c.if-hold-eq0.false)
    (broken (round g (goal.at.returns-in_err-count_skipped-clause-breaks g c).After-skip_held-skipped) c.loop-played.invariant c.in_ok-put_play.ensures.counts c.in_ok-put_play.ensures.puts))

pub loop-played-preserved : goal.loop-played-preserved
loop-played-preserved g c =
    goes_on (round g (goal.at.loop-played-preserved g c).After-skip_held-skipped) c.loop-played.invariant c.in_ok-put_play.ensures.counts
    c.in_ok-put_play.ensures.puts c.in_ok-put_play.ensures.port (c.put_play.ensures.player ∙ c.loop-played.invariant.player)
    (subst (g.P.Player.takes c.put_play.new.to) (sym (c.in_ok-count_skipped.ensures.port ∙ c.in_ok-put_play.ensures.port)) c.put_play.ensures.still)
    (c.in_ok-put_play.ensures.faults.no_write (λ e. e) ∙ c.loop-played.invariant.faults) c.in_ok-count_skipped.ensures.counts c.in_ok-count_skipped.ensures.port
