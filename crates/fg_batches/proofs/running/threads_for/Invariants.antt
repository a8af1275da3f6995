use Rattle.std.proofs.Common.{◌≤◌}
use Rattle.fg_batches.proofs.running.threads_for.Given as goal

abbrev pub invariant-loop-flow : goal.invariant-loop-flow
invariant-loop-flow l = l.playing ≤ 2
