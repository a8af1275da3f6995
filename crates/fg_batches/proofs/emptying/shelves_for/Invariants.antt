use Rattle.std.proofs.Common.{◌≡◌, [], map, take}
use Rattle.fg_batches.proofs.emptying.shelves_for.Given as goal

abbrev pub invariant-loop-k : goal.invariant-loop-k
invariant-loop-k l = l.shelves.items ≡ map (λ port. record { port = port; shelf = [] }) (take l.k l.table)
