use Rattle.std.proofs.Common.{ℕ, refl, subst, ◌∙◌}
use Rattle.std.proofs.lemmas.Result.{on_ok_weaker, on_err_weaker}
use Rattle.fg_io.proofs.FaultLemmas.{on_err}
use Rattle.fg_playout.specs.Admission.{IsDue, IsFresh}
use Rattle.fg_playout.specs.Play.{IsPlay}
use Rattle.fg_prove.specs.Steps.{TellsOne, BreaksOne}
use Rattle.fg_prove.proofs.Playing.{flushes_if_fresh, flushed_before, room_if_flushed, none_due_then, nothing_left_then, flush_breaks_off, due_more, due_breaks, due_before, fails}
use Rattle.fg_prove.proofs.prover.Prover.play_before.Goals as goal

pub play_rest-requires : goal.play_rest-requires
play_rest-requires g c =
    record { within = flushes_if_fresh c.args.self.now.desk.state c.args.seq c.args.ssrc c.requires.within (c.fresh.ensures.0 c.if-fresh.true) }

pub returns-then-fresh-clause-plays : goal.returns-then-fresh-clause-plays
returns-then-fresh-clause-plays g c =
    let old = c.args.self.now in
    let new = c.play_rest.new.self in
    on_ok_weaker c.play_rest.result (flushed_before old.desk.state c.args.seq c.args.ssrc old.gaps.port old.gaps.text.held new.gaps.text.held
    (g.K.Sink.written c.args.out.now) (g.K.Sink.written c.play_rest.new.out) (c.fresh.ensures.0 c.if-fresh.true) new.desk.state) c.play_rest.ensures.plays

pub returns-then-fresh-clause-none_due : goal.returns-then-fresh-clause-none_due
returns-then-fresh-clause-none_due g c =
    let old = c.args.self.now in
    let new = c.play_rest.new.self in
    on_ok_weaker c.play_rest.result (none_due_then old.desk.state c.args.seq c.args.ssrc old.gaps.port old.gaps.text.held new.gaps.text.held
    (g.K.Sink.written c.args.out.now) (g.K.Sink.written c.play_rest.new.out) (c.fresh.ensures.0 c.if-fresh.true) c.runs_join.ensures.ready new.desk.state) c.play_rest.ensures.plays

pub returns-then-fresh-clause-flushed : goal.returns-then-fresh-clause-flushed
returns-then-fresh-clause-flushed g c =
    let old = c.args.self.now in
    let new = c.play_rest.new.self in
    on_ok_weaker c.play_rest.result (nothing_left_then old.desk.state c.args.seq c.args.ssrc old.gaps.port old.gaps.text.held new.gaps.text.held
    (g.K.Sink.written c.args.out.now) (g.K.Sink.written c.play_rest.new.out) (c.fresh.ensures.0 c.if-fresh.true) c.runs_join.ensures.ready new.desk.state) c.play_rest.ensures.plays

pub returns-then-fresh-clause-room : goal.returns-then-fresh-clause-room
returns-then-fresh-clause-room g c =
    let old = c.args.self.now in
    let new = c.play_rest.new.self in
    on_ok_weaker c.play_rest.result (room_if_flushed old.desk.state c.args.seq c.args.ssrc old.gaps.port old.gaps.text.held new.gaps.text.held
    (g.K.Sink.written c.args.out.now) (g.K.Sink.written c.play_rest.new.out) (c.fresh.ensures.0 c.if-fresh.true) c.flushes_end.ensures.nothing_left c.requires.within new.desk.state) c.play_rest.ensures.plays

pub returns-then-fresh-clause-breaks : goal.returns-then-fresh-clause-breaks
returns-then-fresh-clause-breaks g c =
    let old = c.args.self.now in
    let new = c.play_rest.new.self in
    on_err_weaker c.play_rest.result (flush_breaks_off old.desk.state c.args.seq c.args.ssrc old.gaps.port old.gaps.text.held new.gaps.text.held
    (g.K.Sink.written c.args.out.now) (g.K.Sink.written c.play_rest.new.out) (c.fresh.ensures.0 c.if-fresh.true)) c.play_rest.ensures.breaks

pub plays-preserved : goal.plays-preserved
plays-preserved g c =
    let old = c.args.self.now in
    let now = c.plays.self in
    let from = now.desk.state in
    let to = c.play.new.self in
    record {
      so = due_more c.desks_join.ensures.due old.desk.state from to.desk.state c.args.seq c.args.ssrc old.gaps.port old.gaps.text.held now.gaps.text.held to.gaps.text.held
          (g.K.Sink.written c.args.out.now) (g.K.Sink.written c.plays.out) (g.K.Sink.written c.play.new.out)
          (c.plays-test.ensures.0 refl) c.plays.invariant.so
          (subst (λ (port : ℕ). TellsOne (IsPlay from.playout.window from) from port now.gaps.text.held (g.K.Sink.written c.plays.out) to.desk.state to.gaps.text.held (g.K.Sink.written c.play.new.out))
          c.plays.invariant.port c.in_ok-play.ensures.plays);
      port = c.in_ok-play.ensures.port ∙ c.plays.invariant.port;
      faults = c.in_ok-play.ensures.faults.no_write (λ e. e) ∙ c.plays.invariant.faults;
    }

pub returns-in_err-play-clause-breaks : goal.returns-in_err-play-clause-breaks
returns-in_err-play-clause-breaks g c =
    let old = c.args.self.now in
    let now = c.plays.self in
    let from = now.desk.state in
    on_err _ _ (due_breaks c.desks_join.ensures.due old.desk.state from c.args.seq c.args.ssrc old.gaps.port old.gaps.text.held now.gaps.text.held
    (g.K.Sink.written c.args.out.now) (g.K.Sink.written c.plays.out) (g.K.Sink.written c.play.new.out)
    (fails (IsFresh old.desk.state c.args.ssrc) c.fresh.result c.if-fresh.false c.fresh.ensures.1) (c.plays-test.ensures.0 refl) c.plays.invariant.so
    (subst (λ (port : ℕ). BreaksOne (IsPlay from.playout.window from) from port now.gaps.text.held (g.K.Sink.written c.plays.out) (g.K.Sink.written c.play.new.out))
    c.plays.invariant.port c.in_err-play.ensures.breaks))

pub returns-clause-plays : goal.returns-clause-plays
returns-clause-plays g c =
    let old = c.args.self.now in
    let now = c.plays.self in
    let none = fails (IsDue now.desk.state c.args.seq c.args.ssrc) c.due.result c.plays-test.false c.due.ensures.1 in
    due_before c.desks_end.ensures.due_before old.desk.state now.desk.state c.args.seq c.args.ssrc old.gaps.port old.gaps.text.held now.gaps.text.held
    (g.K.Sink.written c.args.out.now) (g.K.Sink.written c.plays.out) (fails (IsFresh old.desk.state c.args.ssrc) c.fresh.result c.if-fresh.false c.fresh.ensures.1) none c.plays.invariant.so
