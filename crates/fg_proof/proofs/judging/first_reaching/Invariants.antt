use Rattle.std.proofs.Common.{◌-◌, ◌<◌, ◌≤◌, ℕ, length, slice_get, IfSome, drop}
use Rattle.fg_runs.specs.Runs.{run_end, InRuns}
use Rattle.fg_proof.proofs.judging.first_reaching.Given as goal

-- no run before the low one goes past the position, and the high one does
abbrev pub invariant-loop-low : goal.invariant-loop-low
invariant-loop-low l = record {
  rising : l.low ≤ l.high;
  inside : l.high ≤ length l.runs;
  passed : (other : ℕ) → l.position ≤ other → InRuns l.runs other → InRuns (drop l.low l.runs) other;
  reaches : IfSome (slice_get l.runs l.high) (λ run. l.position < run_end run);
}

abbrev pub decreases-loop-low : goal.decreases-loop-low
decreases-loop-low l = l.high - l.low
