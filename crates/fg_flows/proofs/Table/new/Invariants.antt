use Rattle.std.proofs.Common.{ℕ, ◌<◌}
use Rattle.fg_flows.specs.Flows.{IsGoodFlow}
use Rattle.fg_flows.specs.Index.{IsIndex}
use Rattle.fg_flows.proofs.Table.new.Given as goal

abbrev pub invariant-loop-i : goal.invariant-loop-i
invariant-loop-i l = IsIndex l.ports l.i l.owners × ((j : ℕ) → j < l.i → IsGoodFlow l.ports j)
