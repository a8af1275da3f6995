use Rattle.std.proofs.Common.{◌≤◌, ℕ, get_or}
use Rattle.fg_buffer.specs.Watches.{AreBounds, nowhere}
use Rattle.fg_buffer.proofs.watches.renew_passed.Given as goal

abbrev pub invariant-loop-block : goal.invariant-loop-block
invariant-loop-block l = AreBounds l.leasts l.first × ((block : ℕ) → get_or l.leasts block 0 ≤ nowhere)
