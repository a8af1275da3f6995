use Rattle.std.proofs.Common.{◌≡◌, length}
use Rattle.std.specs.List.{All}
use Rattle.fg_desk.specs.Contents.{Contents}
use Rattle.fg_flows.specs.Plan.{playout_of}
use Rattle.fg_playout.specs.State.{opening}
use Rattle.fg_engine.proofs.alone.open_desks.Given as goal

abbrev pub invariant-loop : goal.invariant-loop
invariant-loop l = record {
  count : l.count ≡ length l.plan.table;
  long : length l.desks.items ≡ l.counter;
  each : All (λ (desk : Contents). desk.state ≡ opening (playout_of l.plan)) l.desks.items;
}
