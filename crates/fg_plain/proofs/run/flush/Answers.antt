use Rattle.std.proofs.Common.{◌^◌, refl, ◌∙◌, ap}
use Rattle.fg_playout.specs.State.{State}
use Rattle.fg_plain.proofs.PlainRuns.{none_flushed, one_more_flushed, step_nearer}
use Rattle.fg_plain.proofs.run.flush.Goals as goal

pub loop-played-init : goal.loop-played-init
loop-played-init c = record { so = none_flushed c.args.desk.now.state c.args.plays.now.items; tray = refl }

pub flush_step-requires-clause-room : goal.flush_step-requires-clause-room
flush_step-requires-clause-room c =
    let so = c.loop-played.invariant.so in
    (c.requires.within so.flushed c.loop-played.desk.state so.steps).1

pub loop-played-smaller : goal.loop-played-smaller
loop-played-smaller c =
    let so = c.loop-played.invariant.so in
    let within = c.requires.within so.flushed c.loop-played.desk.state so.steps in
    step_nearer (2 ^ 61) c.loop-played.desk.state c.flush_step.new.self.state
    (record { first = c.in-Some.played.first; shown = c.flush_step.new.tray.shown; outcome = c.in-Some.played.verdict })
    c.in-Some.ensures.flushes within.0.window.0 within.1.mark

pub loop-played-preserved : goal.loop-played-preserved
loop-played-preserved c = record {
  so = one_more_flushed c.args.desk.now.state c.loop-played.desk.state c.flush_step.new.self.state
      c.args.plays.now.items c.loop-played.plays.items c.push.new.self.items c.in_ok-copied.field-0
      (record { first = c.in-Some.played.first; shown = c.flush_step.new.tray.shown; outcome = c.in-Some.played.verdict })
      c.flushes_end.ensures.joined c.loop-played.invariant.so c.in-Some.ensures.flushes c.in_ok-copied.ensures c.in_ok-push.ensures.items;
  tray = c.flush_step.ensures.tray ∙ c.loop-played.invariant.tray;
}

pub returns-clause-plays : goal.returns-clause-plays
returns-clause-plays c =
    let so = c.loop-played.invariant.so in (
      so.flushed,
      c.loop-played.desk.state,
      so.added,
      (c.flushes_end.ensures.nothing_left c.args.desk.now.state c.loop-played.desk.state so.flushed).1 (so.steps, c.in_default.ensures.flushes.0),
      c.in_default.ensures.flushes.1,
    )

pub returns-clause-playout : goal.returns-clause-playout
returns-clause-playout c =
    ap (λ (s : State). s.playout) c.in_default.ensures.flushes.1 ∙ c.loop-played.invariant.so.playout
