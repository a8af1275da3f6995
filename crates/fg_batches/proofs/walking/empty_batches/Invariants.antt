use Rattle.std.proofs.Common.{◌≡◌, replicate}
use Rattle.fg_flows.specs.Sheaf.{no_items}
use Rattle.fg_batches.proofs.walking.empty_batches.Given as goal

abbrev pub invariant-loop : goal.invariant-loop
invariant-loop g l = l.batches.items ≡ replicate l.counter (no_items l.flows)
