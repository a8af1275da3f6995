use Rattle.std.proofs.Common.{◌-◌, ◌≤◌}
use Rattle.fg_hold.specs.Steps.{AreBelow, AreNotBelow}
use Rattle.fg_hold.proofs.Waiting.number_from.Given as goal

abbrev pub invariant-loop-below : goal.invariant-loop-below
invariant-loop-below l = AreBelow l.mark l.self l.below × AreNotBelow l.mark l.self l.rest × (l.below ≤ l.rest)

abbrev pub decreases-loop-below : goal.decreases-loop-below
decreases-loop-below l = l.rest - l.below
