use Rattle.std.proofs.Common.{◌≡◌, length}
use Rattle.fg_flows_tests.proofs.tests.sheaf.add_all.Given as goal

abbrev pub invariant-loop-time : goal.invariant-loop-time
invariant-loop-time l = length l.sheaf.items ≡ length l.fn.sheaf.items
