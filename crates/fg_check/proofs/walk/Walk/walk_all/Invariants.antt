use Rattle.std.proofs.Common.{◌≡◌, ℕ, ◌-◌, Option, List}
use Rattle.fg_check.specs.Steps.{IsUnderway}
use Rattle.fg_check.proofs.walk.Walk.walk_all.Given as goal

abbrev pub invariant-loop-checked : goal.invariant-loop-checked
invariant-loop-checked g l = record {
  told : (first : Option (List ℕ)) (before : Option (List ℕ))
      → IsUnderway first (g.S.Source.left l.fn.input) l.fn.self before (g.K.Sink.written l.fn.out)
      → IsUnderway first (g.S.Source.left l.input) l.self before (g.K.Sink.written l.out);
  max : l.self.max ≡ l.fn.self.max;
  reads : g.S.Source.faults l.input ≡ g.S.Source.faults l.fn.input;
  writes : g.K.Sink.faults l.out ≡ g.K.Sink.faults l.fn.out;
  fixed : g.S.Source.fixed l.input ≡ g.S.Source.fixed l.fn.input;
}

abbrev pub decreases-loop-checked : goal.decreases-loop-checked
decreases-loop-checked g l = l.self.input.max - l.self.input.place
