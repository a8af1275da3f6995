use Rattle.std.proofs.Common.{◌-◌, ◌≤◌}
use Rattle.fg_buffer.proofs.LiveWatched.{ClosesTo}
use Rattle.fg_buffer.proofs.retiring.drop_closed.Given as goal

abbrev pub invariant-loop-place : goal.invariant-loop-place
invariant-loop-place l =
    ClosesTo l.mark l.from l.fn.lines l.lines l.fn.places l.places l.fn.watches l.watches × (l.from ≤ 512)

abbrev pub decreases-loop-place : goal.decreases-loop-place
decreases-loop-place l = 512 - l.from
