use Rattle.std.proofs.Common.{◌<◌, ℕ}
use Rattle.fg_buffer.specs.LiveInside.{IsTaken}
use Rattle.fg_buffer.proofs.places.first_free.Given as goal

abbrev pub invariant-loop-i : goal.invariant-loop-i
invariant-loop-i l = (place : ℕ) → place < l.i → IsTaken l.places place
