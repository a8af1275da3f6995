use Rattle.std.proofs.Common.{List, sym, subst, ◌∙◌}
use Rattle.fg_io.proofs.FaultLemmas.{on_err}
use Rattle.fg_playout.specs.Play.{Play}
use Rattle.fg_playout.specs.Run.{IsFlush}
use Rattle.fg_playout.specs.Laws.{AreFlushSteps}
use Rattle.fg_engine.proofs.Rounds.{IsRound, broken, farther, flush_round, goes_on, keeps, skips_within}
use Rattle.fg_engine.proofs.Showing.{retold, breaks_off, step_after}
use Rattle.fg_engine.proofs.flow.Flow.play_rest.Goals as goal
use Rattle.fg_engine.proofs.flow.Flow.play_rest.Goals.{After-skip_rest-skipped}

-- One round of the loop.
round :
    (g : _) (c : After-skip_rest-skipped g)
    → IsRound (AreFlushSteps c.args.self.now.state) (g.D.WindowState.state c.loop-played.self-inside.window) c.in-Some.played
    (g.D.WindowState.shows c.flush_step.new.self c.in-Some.played) (g.D.WindowState.state c.flush_step.new.self) c.skip_rest-skipped.result
    (g.D.WindowState.state c.skip_rest-skipped.new.self)
round g c =
    flush_round c.in-Some.played c.skip_rest-skipped.result c.in-Some.ensures.count c.skip_rest-skipped.ensures.positions
    c.flushes_end.ensures.joined c.requires.within c.loop-played.invariant c.in-Some.ensures.flushes c.skip_rest-skipped.ensures.flushes

pub loop-played-smaller : goal.loop-played-smaller
loop-played-smaller g c = farther (round g (goal.at.loop-played-smaller g c).After-skip_rest-skipped)

pub returns-in_err-count_skipped-clause-playout : goal.returns-in_err-count_skipped-clause-playout
returns-in_err-count_skipped-clause-playout g c = keeps (round g (goal.at.returns-in_err-count_skipped-clause-playout g c).After-skip_rest-skipped) c.loop-played.invariant

pub returns-in_err-put_play-clause-breaks : goal.returns-in_err-put_play-clause-breaks
returns-in_err-put_play-clause-breaks g c =
    on_err _ _ (breaks_off c.loop-played.invariant (step_after _ _ _ _ c.flushes_end.ensures.joined c.in-Some.ensures.flushes)
    c.in_err-put_play.ensures.part)

pub count_skipped-requires : goal.count_skipped-requires
count_skipped-requires g c = skips_within (round g (goal.at.count_skipped-requires g c).After-skip_rest-skipped) c.loop-played.invariant c.in_ok-put_play.ensures.counts

pub returns-in_err-count_skipped-clause-breaks : goal.returns-in_err-count_skipped-clause-breaks
returns-in_err-count_skipped-clause-breaks g c =
    on_err _ _ (broken (round g (goal.at.returns-in_err-count_skipped-clause-breaks g c).After-skip_rest-skipped) c.loop-played.invariant c.in_ok-put_play.ensures.counts c.in_ok-put_play.ensures.puts)

pub returns-clause-plays : goal.returns-clause-plays
returns-clause-plays g c = (
  g.D.WindowState.state c.loop-played.self-inside.window,
  c.in_default.ensures.flushes.1,
  retold (AreFlushSteps c.args.self.now.state) (IsFlush c.args.self.now.state) _ _ _ _ _ _
      (λ (plays : List Play) steps. (c.flushes_end.ensures.nothing_left c.args.self.now.state _ plays).1 (steps, c.in_default.ensures.flushes.0))
      c.loop-played.invariant.so,
)

pub loop-played-preserved : goal.loop-played-preserved
loop-played-preserved g c =
    goes_on (round g (goal.at.loop-played-preserved g c).After-skip_rest-skipped) c.loop-played.invariant c.in_ok-put_play.ensures.counts
    c.in_ok-put_play.ensures.puts c.in_ok-put_play.ensures.port (c.put_play.ensures.player ∙ c.loop-played.invariant.player)
    (subst (g.P.Player.takes c.put_play.new.to) (sym (c.in_ok-count_skipped.ensures.port ∙ c.in_ok-put_play.ensures.port)) c.put_play.ensures.still)
    (c.in_ok-put_play.ensures.faults.no_write (λ e. e) ∙ c.loop-played.invariant.faults) c.in_ok-count_skipped.ensures.counts c.in_ok-count_skipped.ensures.port
