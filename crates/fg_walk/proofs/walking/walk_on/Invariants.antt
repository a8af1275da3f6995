use Rattle.std.proofs.Common.{◌≡◌, ℕ, Option, List}
use Rattle.fg_walk.proofs.walking.walk_on.Given as goal

abbrev pub invariant-loop-ending : goal.invariant-loop-ending
invariant-loop-ending g l = record {
  underway : (first before : Option (List ℕ))
      → g.W.Walking.is_underway l.fn.walking l.fn.reader first (g.S.Source.left l.fn.input) before (g.K.Sink.written l.fn.out)
      → g.W.Walking.is_underway l.walking l.reader first (g.S.Source.left l.input) before (g.K.Sink.written l.out);
  given : g.W.Walking.given l.walking l.reader ≡ g.W.Walking.given l.fn.walking l.fn.reader;
  reads : g.S.Source.faults l.input ≡ g.S.Source.faults l.fn.input;
  writes : g.K.Sink.faults l.out ≡ g.K.Sink.faults l.fn.out;
  fixed : g.S.Source.fixed l.input ≡ g.S.Source.fixed l.fn.input;
}

abbrev pub decreases-loop-ending : goal.decreases-loop-ending
decreases-loop-ending g l = g.W.Walking.steps_left l.walking l.reader
