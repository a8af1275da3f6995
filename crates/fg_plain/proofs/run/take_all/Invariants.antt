use Rattle.std.proofs.Common.{◌≡◌, take}
use Rattle.fg_plain.specs.Datagrams.{AreTaken}
use Rattle.fg_plain.proofs.run.take_all.Given as goal

abbrev pub invariant-loop-datagram : goal.invariant-loop-datagram
invariant-loop-datagram l = record {
  so : AreTaken l.fn.desk.state.playout (take l.datagram-index l.datagrams) l.desk.state l.run.plays.items l.run.replies.items;
  tray : l.tray.window ≡ l.fn.tray.window;
}
