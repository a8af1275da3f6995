use Rattle.std.proofs.Common.{◌≡◌, map}
use Rattle.fg_batches.specs.Walking.{unshelved}
use Rattle.fg_batches.proofs.walking.with_shelves.Given as goal

abbrev pub invariant-loop-flow : goal.invariant-loop-flow
invariant-loop-flow g l = l.all.items ≡ map unshelved l.yielded
