use Rattle.std.proofs.Common.{◌+◌, ◌*◌, ◌≤◌, ℕ, drop}
use Rattle.fg_runs.specs.Runs.{InRuns}
use Rattle.fg_proof.proofs.JudgingHoles.{OneBelow, IsHoleAt}
use Rattle.fg_proof.proofs.judging.has_one_hole.Given as goal

-- no run before this one goes as far as the next slot, and whether one of the slots so far is a hole is told
abbrev pub invariant-loop-j : goal.invariant-loop-j
invariant-loop-j l = record {
  passed : (other : ℕ) → l.base + l.j * l.shape.offset ≤ other → InRuns l.holes other → InRuns (drop l.at l.holes) other;
  told : OneBelow l.found (IsHoleAt l.holes l.base l.shape) l.j;
}
