use Rattle.std.proofs.Common.{◌≡◌, ◌≤◌, ℕ, ◌-◌, Option, None, List, []}
use Rattle.fg_trace.specs.Trace.{Record}
use Rattle.fg_engine.specs.Engine.{HasRead}
use Rattle.fg_batches.specs.Gathering.{HasGathered}
use Rattle.fg_batches.proofs.gathering.Gathering.fill.Given as goal

abbrev pub invariant-loop-reader : goal.invariant-loop-reader
invariant-loop-reader g l = record {
  came : (first : Option (List ℕ)) (records : List Record)
      → HasGathered l.plan first (g.S.Source.left l.fn.input) l.fn.reader records [] l.fn.self
      → (batch : List Record) × HasGathered l.plan first (g.S.Source.left l.input) l.reader records batch l.self;
  none : l.self.next ≡ None;
  far : (first : Option (List ℕ)) → HasRead l.plan.max l.fn.reader first (g.S.Source.left l.fn.input)
      → HasRead l.plan.max l.reader first (g.S.Source.left l.input);
  unkept : l.reader.kept ≡ None;
  max : l.reader.max ≡ l.plan.max;
  on : l.fn.reader.place ≤ l.reader.place;
  reads : g.S.Source.faults l.input ≡ g.S.Source.faults l.fn.input;
  fixed : g.S.Source.fixed l.input ≡ g.S.Source.fixed l.fn.input;
}

abbrev pub decreases-loop-reader : goal.decreases-loop-reader
decreases-loop-reader g l = l.reader.max - l.reader.place
