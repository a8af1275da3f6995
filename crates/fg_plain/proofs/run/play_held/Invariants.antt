use Rattle.std.proofs.Common.{◌≡◌, ◌-◌, ◌^◌}
use Rattle.fg_plain.proofs.PlainRuns.{HaveHeldSo}
use Rattle.fg_plain.proofs.run.play_held.Given as goal

abbrev pub invariant-loop-played : goal.invariant-loop-played
invariant-loop-played l = record {
  so : HaveHeldSo l.fn.desk.state l.time l.fn.plays.items l.desk.state l.plays.items;
  tray : l.tray.window ≡ l.fn.tray.window;
}

abbrev pub decreases-loop-played : goal.decreases-loop-played
decreases-loop-played l = 2 ^ 61 - l.desk.state.mark
