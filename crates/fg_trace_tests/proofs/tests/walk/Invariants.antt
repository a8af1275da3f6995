use Rattle.std.proofs.Common.{◌≡◌, true}
use Rattle.fg_trace_tests.proofs.tests.walk.Given as goal

abbrev pub invariant-loop-count : goal.invariant-loop-count
invariant-loop-count g l = l.reader.started ≡ true
