use Rattle.std.proofs.Common.{◌≡◌, ◌++◌}
use Rattle.fg_engine.specs.Engine.{sums_of}
use Rattle.fg_engine.proofs.records.add_sums.Given as goal

abbrev pub invariant-loop-flow : goal.invariant-loop-flow
invariant-loop-flow g l = l.sums.items ≡ l.fn.sums.items ++ sums_of l.yielded
