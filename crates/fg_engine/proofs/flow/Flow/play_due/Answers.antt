use Rattle.std.proofs.Common.{List, refl, sym, subst, ◌∙◌}
use Rattle.fg_io.proofs.FaultLemmas.{on_err}
use Rattle.fg_playout.specs.Admission.{IsDue}
use Rattle.fg_playout.specs.Laws.{HavePlayed}
use Rattle.fg_playout.specs.Play.{Play}
use Rattle.fg_playout.specs.Run.{ArePlaysDue}
use Rattle.fg_engine.proofs.Rounds.{IsRound, broken, due_round, farther, goes_on, keeps, skips_within}
use Rattle.fg_engine.proofs.Showing.{retold, breaks_off, due_after, fails}
use Rattle.fg_engine.proofs.flow.Flow.play_due.Goals as goal
use Rattle.fg_engine.proofs.flow.Flow.play_due.Goals.{After-skip_due-skipped}

-- One round of the loop.
round :
    (g : _) (c : After-skip_due-skipped g)
    → IsRound (HavePlayed c.args.self.now.state c.args.seq c.args.ssrc) (g.D.WindowState.state c.loop-self.self-inside.window)
    c.play-played.result (g.D.WindowState.shows c.play-played.new.self c.play-played.result) (g.D.WindowState.state c.play-played.new.self)
    c.skip_due-skipped.result (g.D.WindowState.state c.skip_due-skipped.new.self)
round g c =
    due_round c.play-played.result c.skip_due-skipped.result c.play-played.ensures.count c.skip_due-skipped.ensures.positions c.args.seq
    c.args.ssrc c.runs_join.ensures.plays c.requires.within c.requires.stale c.loop-self.invariant (c.loop-self-test.ensures.0 refl)
    c.play-played.ensures.play c.skip_due-skipped.ensures.plays

pub loop-self-smaller : goal.loop-self-smaller
loop-self-smaller g c = farther (round g (goal.at.loop-self-smaller g c).After-skip_due-skipped)

pub returns-in_err-count_skipped-clause-playout : goal.returns-in_err-count_skipped-clause-playout
returns-in_err-count_skipped-clause-playout g c = keeps (round g (goal.at.returns-in_err-count_skipped-clause-playout g c).After-skip_due-skipped) c.loop-self.invariant

pub returns-in_err-put_play-clause-breaks : goal.returns-in_err-put_play-clause-breaks
returns-in_err-put_play-clause-breaks g c =
    let join = due_after _ _ _ c.args.seq c.args.ssrc _ c.runs_join.ensures.plays (c.loop-self-test.ensures.0 refl) c.play-played.ensures.play in
    on_err _ _ (breaks_off c.loop-self.invariant join c.in_err-put_play.ensures.part)

pub count_skipped-requires : goal.count_skipped-requires
count_skipped-requires g c = skips_within (round g (goal.at.count_skipped-requires g c).After-skip_due-skipped) c.loop-self.invariant c.in_ok-put_play.ensures.counts

pub returns-in_err-count_skipped-clause-breaks : goal.returns-in_err-count_skipped-clause-breaks
returns-in_err-count_skipped-clause-breaks g c =
    on_err _ _ (broken (round g (goal.at.returns-in_err-count_skipped-clause-breaks g c).After-skip_due-skipped) c.loop-self.invariant c.in_ok-put_play.ensures.counts c.in_ok-put_play.ensures.puts)

pub returns-clause-plays : goal.returns-clause-plays
returns-clause-plays g c =
    let old = c.args.self.now in
    let now = c.loop-self in
    let from = g.D.WindowState.state now.self-inside.window in
    let none = fails (IsDue from c.args.seq c.args.ssrc) c.due.result c.loop-self-test.false c.due.ensures.1 in
    retold (HavePlayed old.state c.args.seq c.args.ssrc) (ArePlaysDue old.state c.args.seq c.args.ssrc) old.state from old.sum now.self-inside.sum
    (g.P.Player.lanes c.args.lanes.now) (g.P.Player.lanes now.lanes)
    (λ (plays : List Play) played. (c.runs_join.ensures.all_due old.state from c.args.seq c.args.ssrc plays).1 (played, none))
    now.invariant.so

pub loop-self-preserved : goal.loop-self-preserved
loop-self-preserved g c =
    goes_on (round g (goal.at.loop-self-preserved g c).After-skip_due-skipped) c.loop-self.invariant c.in_ok-put_play.ensures.counts
    c.in_ok-put_play.ensures.puts c.in_ok-put_play.ensures.port (c.put_play.ensures.player ∙ c.loop-self.invariant.player)
    (subst (g.P.Player.takes c.put_play.new.to) (sym (c.in_ok-count_skipped.ensures.port ∙ c.in_ok-put_play.ensures.port)) c.put_play.ensures.still)
    (c.in_ok-put_play.ensures.faults.no_write (λ e. e) ∙ c.loop-self.invariant.faults) c.in_ok-count_skipped.ensures.counts c.in_ok-count_skipped.ensures.port
