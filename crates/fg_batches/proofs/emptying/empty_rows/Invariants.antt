use Rattle.std.proofs.Common.{◌≡◌, map, replicate}
use Rattle.fg_batches.specs.Batches.{nothing_waits}
use Rattle.fg_batches.proofs.emptying.empty_rows.Given as goal

abbrev pub invariant-loop : goal.invariant-loop
invariant-loop g l = l.rows.items ≡ replicate l.counter (map nothing_waits l.table)
