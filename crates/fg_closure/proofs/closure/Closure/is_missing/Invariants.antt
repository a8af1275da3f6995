use Rattle.std.proofs.Common.{◌≡◌, ◌+◌, ◌<◌, ℕ, true, false, get_or}
use Rattle.fg_closure.proofs.closure.Closure.is_missing.Given as goal

abbrev pub invariant-loop-k : goal.invariant-loop-k
invariant-loop-k l = (k : ℕ) → k < l.k → get_or l.self.closed.items (l.start + k) false ≡ true
