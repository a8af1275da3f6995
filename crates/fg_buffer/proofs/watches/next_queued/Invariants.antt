use Rattle.std.proofs.Common.{◌≡◌, ◌<◌, ◌≤◌, ℕ, get_or, false}
use Rattle.fg_buffer.proofs.watches.next_queued.Given as goal

abbrev pub invariant-loop-place : goal.invariant-loop-place
invariant-loop-place l = (other : ℕ) → l.from ≤ other → other < l.place → get_or l.queued other false ≡ false
