use Rattle.std.proofs.Common.{◌≡◌}
use Rattle.fg_io_tests.proofs.tests.input_buffer.walk.Given as goal

abbrev pub invariant-loop : goal.invariant-loop
invariant-loop l = l.input.longest ≡ 64
