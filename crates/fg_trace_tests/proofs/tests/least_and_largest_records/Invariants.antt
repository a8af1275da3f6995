use Rattle.std.proofs.Common.{◌≡◌, true}
use Rattle.fg_trace_tests.proofs.tests.least_and_largest_records.Given as goal

abbrev pub invariant-loop-number : goal.invariant-loop-number
invariant-loop-number g l = l.reader.started ≡ true
