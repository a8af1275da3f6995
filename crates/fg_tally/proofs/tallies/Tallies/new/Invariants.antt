use Rattle.std.proofs.Common.{◌≡◌, ◌≤◌, ◌-◌}
use Rattle.std.specs.Vec.{vec_len, vec_capacity}
use Rattle.fg_tally.specs.Tally.{with_passes}
use Rattle.fg_tally.proofs.tallies.Tallies.new.Given as goal

-- A pass was made for each tally so far, and there is room for all.
abbrev pub invariant-loop-tallies : goal.invariant-loop-tallies
invariant-loop-tallies l =
    (l.admitter ≡ with_passes l.fn.admitter (vec_len l.tallies)) × (vec_len l.tallies ≤ 512) × (512 ≤ vec_capacity l.tallies)

abbrev pub decreases-loop-tallies : goal.decreases-loop-tallies
decreases-loop-tallies l = 512 - vec_len l.tallies
