use Rattle.std.proofs.Common.{◌≢◌, ◌<◌, ◌≤◌, ℕ, get_or}
use Rattle.fg_buffer.proofs.watches.next_watching.Given as goal

abbrev pub invariant-loop-place : goal.invariant-loop-place
invariant-loop-place l =
    (other : ℕ) → l.from ≤ other → other < l.place
    → (get_or l.first other 0 ≢ l.position) × (get_or l.second other 0 ≢ l.position)
