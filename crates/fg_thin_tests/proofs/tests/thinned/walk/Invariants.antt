use Rattle.std.proofs.Common.{◌≡◌, true}
use Rattle.fg_thin_tests.proofs.tests.thinned.walk.Given as goal

abbrev pub invariant-loop : goal.invariant-loop
invariant-loop g l = l.reader.started ≡ true
