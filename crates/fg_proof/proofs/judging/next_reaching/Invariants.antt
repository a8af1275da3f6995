use Rattle.std.proofs.Common.{◌-◌, ◌≤◌, ℕ, length, drop}
use Rattle.fg_runs.specs.Runs.{InRuns}
use Rattle.fg_proof.proofs.judging.next_reaching.Given as goal

-- no run before this one goes past the position
abbrev pub invariant-loop-at : goal.invariant-loop-at
invariant-loop-at l = (other : ℕ) → l.position ≤ other → InRuns l.runs other → InRuns (drop l.at l.runs) other

abbrev pub decreases-loop-at : goal.decreases-loop-at
decreases-loop-at l = length l.runs - l.at
