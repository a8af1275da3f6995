use Rattle.std.proofs.Common.{◌≡◌, ◌≤◌, map, take}
use Rattle.fg_playout.specs.Run.{count_of}
use Rattle.fg_plain.specs.Datagrams.{arrival_of}
use Rattle.fg_plain.proofs.run.FlowRun.count.Given as goal

abbrev pub invariant-loop-i : goal.invariant-loop-i
invariant-loop-i l = record {
  so : l.count ≡ count_of l.stream l.reply (map arrival_of (take l.i l.datagrams)) (take l.i l.self.replies.items);
  few : l.count ≤ l.i;
}
