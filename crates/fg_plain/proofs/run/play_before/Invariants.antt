use Rattle.std.proofs.Common.{◌≡◌, ◌-◌, ◌^◌}
use Rattle.fg_playout.specs.Admission.{IsFresh}
use Rattle.fg_plain.proofs.PlainRuns.{HavePlayedSo}
use Rattle.fg_plain.proofs.run.play_before.Given as goal

abbrev pub invariant-loop-alloc : goal.invariant-loop-alloc
invariant-loop-alloc l = record {
  stale : ¬ IsFresh l.fn.desk.state l.ssrc;
  so : HavePlayedSo l.fn.desk.state l.seq l.ssrc l.fn.plays.items l.desk.state l.plays.items;
  tray : l.tray.window ≡ l.fn.tray.window;
}

abbrev pub decreases-loop-alloc : goal.decreases-loop-alloc
decreases-loop-alloc l = 2 ^ 61 - l.desk.state.mark
