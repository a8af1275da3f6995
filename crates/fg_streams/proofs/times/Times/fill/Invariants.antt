use Rattle.std.proofs.Common.{◌≡◌, ℕ, List, Option, None, replicate}
use Rattle.fg_streams.proofs.times.Times.fill.Given as goal

abbrev pub invariant-loop : goal.invariant-loop
invariant-loop l = record {
  filled : l.self.recent ≡ (let lost : List (Option ℕ) = replicate l.counter None in lost);
  gaps : l.self.gaps ≡ l.fn.self.gaps;
}
