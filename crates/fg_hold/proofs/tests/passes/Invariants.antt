use Rattle.std.proofs.Common.{◌≡◌}
use Rattle.fg_hold.proofs.tests.passes.Given as goal

abbrev pub invariant-loop-time : goal.invariant-loop-time
invariant-loop-time g l = l.waiting.hold ≡ l.initial.waiting.hold
