use Rattle.std.proofs.Common.{◌≡◌, ◌++◌, map}
use Rattle.fg_batches.proofs.walking.flows_alone.Given as goal

abbrev pub invariant-loop-flow : goal.invariant-loop-flow
invariant-loop-flow g l = l.left.items ≡ l.fn.left.items ++ map (λ flow. flow.flow) l.yielded
