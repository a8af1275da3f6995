use Rattle.std.proofs.Common.{◌+◌, ◌-◌, ℕ, length, drop}
use Rattle.fg_runs.specs.Runs.{InRuns}
use Rattle.fg_proof.proofs.judging.first_shared.Given as goal

-- a position of both is in what is left of both
abbrev pub invariant-loop-i : goal.invariant-loop-i
invariant-loop-i l =
    (position : ℕ) → InRuns l.case.known position → InRuns l.case.holes position
    → InRuns (drop l.i l.case.known) position × InRuns (drop l.j l.case.holes) position

abbrev pub decreases-loop-i : goal.decreases-loop-i
decreases-loop-i l = (length l.case.known - l.i) + (length l.case.holes - l.j)
