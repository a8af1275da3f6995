use Rattle.std.proofs.Common.{◌≡◌, ◌++◌, ◌-◌, ℕ, List, Option}
use Rattle.std.specs.List.{Contains}
use Rattle.fg_check.specs.Steps.{IsBehind, IsBuffer}
use Rattle.fg_check.proofs.walk.pass_line.Given as goal

abbrev pub invariant-loop-passed : goal.invariant-loop-passed
invariant-loop-passed g l = record {
  more : (more : List ℕ) × (¬ Contains more 10)
      × ((first : Option (List ℕ)) (front : List ℕ)
      → IsBehind first front l.fn.input (g.S.Source.left l.fn.from)
      → IsBehind first (front ++ more) l.input (g.S.Source.left l.from));
  buffer : IsBuffer l.input;
  max : l.input.max ≡ l.fn.input.max;
  reads : g.S.Source.faults l.from ≡ g.S.Source.faults l.fn.from;
  fixed : g.S.Source.fixed l.from ≡ g.S.Source.fixed l.fn.from;
}

abbrev pub decreases-loop-passed : goal.decreases-loop-passed
decreases-loop-passed g l = l.input.max - l.input.place
