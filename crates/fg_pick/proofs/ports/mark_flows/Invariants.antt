use Rattle.std.proofs.Common.{take}
use Rattle.fg_pick.specs.Picked.{IsOnFlow}
use Rattle.fg_pick.specs.Ports.{Marks}
use Rattle.fg_pick.proofs.ports.mark_flows.Given as goal

abbrev pub invariant-loop-flow : goal.invariant-loop-flow
invariant-loop-flow l = Marks (IsOnFlow (take l.flow-index l.flows)) l.fn.entries.items l.entries.items
