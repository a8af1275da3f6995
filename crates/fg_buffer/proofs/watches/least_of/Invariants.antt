use Rattle.std.proofs.Common.{◌<◌, ◌≤◌, ℕ, get_or}
use Rattle.fg_buffer.specs.Watches.{nowhere}
use Rattle.fg_buffer.proofs.watches.least_of.Given as goal

abbrev pub invariant-loop-place : goal.invariant-loop-place
invariant-loop-place l =
    ((other : ℕ) → l.from ≤ other → other < l.place → l.least ≤ get_or l.positions other 0) × (l.least ≤ nowhere)
