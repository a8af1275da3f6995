use Rattle.std.proofs.Common.{◌^◌, inl, inr, refl, sym, subst, ◌∙◌}
use Rattle.fg_playout.specs.Admission.{IsDue, IsFresh}
use Rattle.fg_playout.specs.Room.{HasRoom}
use Rattle.fg_playout.specs.Run.{ArePlaysBefore, by_flush}
use Rattle.fg_plain.proofs.PlainRuns.{none_played, one_more_played, nearer, fails}
use Rattle.fg_plain.proofs.run.play_before.Goals as goal
use Rattle.fg_plain.proofs.run.play_before.Goals.{In_ok-flush}

pub flush-requires-clause-within : goal.flush-requires-clause-within
flush-requires-clause-within c flushed new steps =
    let within = c.requires.within flushed new (inl (c.fresh.ensures.0 c.if-fresh.true, steps)) in
    (within.0, within.1)

-- What the flush played is all that is played before the datagram.
all_before :
    (c : In_ok-flush)
    → ArePlaysBefore c.args.desk.now.state c.args.seq c.args.ssrc c.in_ok-flush.ensures.plays.0 c.flush.new.desk.state
all_before c =
    let flush = c.in_ok-flush.ensures.plays in
    by_flush flush.1 (c.fresh.ensures.0 c.if-fresh.true) flush.3 flush.4

pub returns-then-fresh-clause-plays : goal.returns-then-fresh-clause-plays
returns-then-fresh-clause-plays c =
    let d = (goal.at.returns-then-fresh-clause-plays c).In_ok-flush in
    let flush = c.in_ok-flush.ensures.plays in
    (flush.0, flush.2, all_before d)

pub returns-then-fresh-clause-ready : goal.returns-then-fresh-clause-ready
returns-then-fresh-clause-ready c =
    let d = (goal.at.returns-then-fresh-clause-ready c).In_ok-flush in
    let ready = c.runs_join.ensures.ready c.args.desk.now.state c.flush.new.desk.state c.args.seq c.args.ssrc
    c.in_ok-flush.ensures.plays.0 (all_before d) in
    (ready.0, ready.1)

pub returns-then-fresh-clause-room : goal.returns-then-fresh-clause-room
returns-then-fresh-clause-room c =
    let flush = c.in_ok-flush.ensures.plays in
    let steps = (c.flushes_end.ensures.nothing_left c.args.desk.now.state flush.1 flush.0).0 flush.3 in
    let within = c.requires.within flush.0 flush.1 (inl (c.fresh.ensures.0 c.if-fresh.true, steps.0)) in
    subst HasRoom (sym flush.4) within.2

pub loop-alloc-init : goal.loop-alloc-init
loop-alloc-init c = record {
  stale = fails (IsFresh c.args.desk.now.state c.args.ssrc) c.fresh.result c.if-fresh.false c.fresh.ensures.1;
  so = none_played c.args.desk.now.state c.args.seq c.args.ssrc c.args.plays.now.items;
  tray = refl;
}

pub play-played-requires-clause-room : goal.play-played-requires-clause-room
play-played-requires-clause-room c =
    let so = c.loop-alloc.invariant.so in
    (c.requires.within so.due c.loop-alloc.desk.state (inr (c.loop-alloc.invariant.stale, so.played))).1

pub loop-alloc-smaller : goal.loop-alloc-smaller
loop-alloc-smaller c =
    let so = c.loop-alloc.invariant.so in
    let within = c.requires.within so.due c.loop-alloc.desk.state (inr (c.loop-alloc.invariant.stale, so.played)) in
    nearer (2 ^ 61) c.loop-alloc.desk.state.mark c.play-played.new.self.state.mark c.loop-alloc.desk.state.playout.window
    c.play-played.ensures.play.mark within.0.window.0 within.1.mark

pub loop-alloc-preserved : goal.loop-alloc-preserved
loop-alloc-preserved c = record {
  stale = c.loop-alloc.invariant.stale;
  so = one_more_played c.args.desk.now.state c.loop-alloc.desk.state c.play-played.new.self.state c.args.seq c.args.ssrc
      c.args.plays.now.items c.loop-alloc.plays.items c.push.new.self.items c.in_ok-copied.field-0
      (record { first = c.play-played.result.first; shown = c.play-played.new.tray.shown; outcome = c.play-played.result.verdict })
      c.runs_join.ensures.plays c.loop-alloc.invariant.so (c.loop-alloc-test.ensures.0 refl) c.play-played.ensures.play
      c.in_ok-copied.ensures c.in_ok-push.ensures.items;
  tray = c.play-played.ensures.tray ∙ c.loop-alloc.invariant.tray;
}

pub returns-clause-plays : goal.returns-clause-plays
returns-clause-plays c =
    let so = c.loop-alloc.invariant.so in
    let none = fails (IsDue c.loop-alloc.desk.state c.args.seq c.args.ssrc) c.due.result c.loop-alloc-test.false
    c.due.ensures.1 in (
      so.due,
      so.added,
      c.runs_join.ensures.played c.args.desk.now.state c.loop-alloc.desk.state c.args.seq c.args.ssrc so.due
          c.loop-alloc.invariant.stale so.played none,
    )

pub returns-clause-ready : goal.returns-clause-ready
returns-clause-ready c =
    let so = c.loop-alloc.invariant.so in
    let none = fails (IsDue c.loop-alloc.desk.state c.args.seq c.args.ssrc) c.due.result c.loop-alloc-test.false
    c.due.ensures.1 in
    let before = c.runs_join.ensures.played c.args.desk.now.state c.loop-alloc.desk.state c.args.seq c.args.ssrc so.due
    c.loop-alloc.invariant.stale so.played none in
    let ready = c.runs_join.ensures.ready c.args.desk.now.state c.loop-alloc.desk.state c.args.seq c.args.ssrc so.due before in
    (ready.0, ready.1)

pub returns-clause-room : goal.returns-clause-room
returns-clause-room c =
    let so = c.loop-alloc.invariant.so in
    (c.requires.within so.due c.loop-alloc.desk.state (inr (c.loop-alloc.invariant.stale, so.played))).1

pub returns-clause-playout : goal.returns-clause-playout
returns-clause-playout c = c.loop-alloc.invariant.so.playout
