use Rattle.std.proofs.Common.{◌≡◌, length}
use Rattle.fg_workers.proofs.opening.open_none.Given as goal

abbrev pub invariant-loop : goal.invariant-loop
invariant-loop l = length l.owns.items ≡ l.counter
