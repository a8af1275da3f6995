use Rattle.std.proofs.Common.{◌≡◌, ◌-◌, ◌<◌, ◌≤◌, ℕ, length}
use Rattle.fg_buffer.specs.Watches.{IsQueued, IsWatching}
use Rattle.fg_buffer.proofs.watches.Watches.wake.Given as goal

abbrev pub invariant-loop-place : goal.invariant-loop-place
invariant-loop-place l =
    (l.self.first ≡ l.fn.self.first) × (l.self.second ≡ l.fn.self.second)
    × ((place : ℕ) → IsQueued l.fn.self place → IsQueued l.self place)
    × ((place : ℕ) → place < l.from → IsWatching l.fn.self l.position place → IsQueued l.self place)
    × (l.from ≤ 512)
    × (length l.fn.self.queued ≡ 512 → length l.self.queued ≡ 512)

abbrev pub decreases-loop-place : goal.decreases-loop-place
decreases-loop-place l = 512 - l.from
