use Rattle.std.proofs.Common.{◌∙◌}
use Rattle.fg_plain.proofs.PlainRuns.{one_more_held}
use Rattle.fg_plain.proofs.run.play_held.Goals as goal

pub loop-played-preserved : goal.loop-played-preserved
loop-played-preserved c = record {
  so = one_more_held c.args.desk.now.state c.loop-played.desk.state c.held_step.new.self.state c.args.time
      c.args.plays.now.items c.loop-played.plays.items c.push.new.self.items c.in_ok-copied.field-0
      (record { first = c.in-Some.played.first; shown = c.held_step.new.tray.shown; outcome = c.in-Some.played.verdict })
      c.runs_join.ensures.held c.loop-played.invariant.so c.in-Some.ensures.held c.in_ok-copied.ensures c.in_ok-push.ensures.items;
  tray = c.held_step.ensures.tray ∙ c.loop-played.invariant.tray;
}
