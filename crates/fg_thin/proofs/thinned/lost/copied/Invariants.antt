use Rattle.std.proofs.Common.{◌≡◌, take}
use Rattle.fg_thin.proofs.thinned.lost.copied.Given as goal

abbrev pub invariant-loop-i : goal.invariant-loop-i
invariant-loop-i l = l.numbers.items ≡ take l.i l.drops
