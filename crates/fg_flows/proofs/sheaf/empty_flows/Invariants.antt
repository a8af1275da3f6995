use Rattle.std.proofs.Common.{◌≡◌, length}
use Rattle.fg_flows.specs.Entries.{AreEmpty, HaveRoom}
use Rattle.fg_flows.proofs.sheaf.empty_flows.Given as goal

abbrev pub invariant-loop : goal.invariant-loop
invariant-loop l = record {
  count : length l.flows.items ≡ l.counter;
  empty : AreEmpty l.flows.items;
  room : HaveRoom l.flows.items;
}
