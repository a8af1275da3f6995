use Rattle.std.proofs.Common.{◌++◌, Option, None, ℕ, List, replicate}
use Rattle.fg_streams.specs.Steps.{Keeps}
use Rattle.fg_streams.proofs.times.Times.push_lost.Given as goal

abbrev pub invariant-loop : goal.invariant-loop
invariant-loop l = record {
  kept : (times : List (Option ℕ)) → Keeps l.fn.self times → Keeps l.self (times ++ replicate l.counter None);
}
