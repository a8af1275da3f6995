use Rattle.std.proofs.Common.{◌≡◌, ◌<◌, ◌^◌, ◌++◌, Option, ℕ, List, length}
use Rattle.fg_streams.specs.Steps.{IsClosed, Keeps}
use Rattle.fg_streams.proofs.times.Times.drain.Given as goal

abbrev pub invariant-loop-oldest : goal.invariant-loop-oldest
invariant-loop-oldest l = record {
  kept : (times : List (Option ℕ)) → Keeps l.fn.self times → (old : List (Option ℕ)) × (times ≡ old ++ l.self.recent) × IsClosed l.self.gaps old;
  few : (times : List (Option ℕ)) × Keeps l.fn.self times × (length times < 2 ^ 60);
}

abbrev pub decreases-loop-oldest : goal.decreases-loop-oldest
decreases-loop-oldest l = length l.self.recent
