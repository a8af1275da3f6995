use Rattle.std.proofs.Common.{◌≡◌, ◌≤◌}
use Rattle.fg_thin.specs.Drawn.{drawn_drops}
use Rattle.fg_thin.proofs.DrawnLemmas.{generator_at}
use Rattle.fg_thin.proofs.drawing.draw_drops.Given as goal

abbrev pub invariant-loop-number : goal.invariant-loop-number
invariant-loop-number l = record {
  least : 1 ≤ l.number;
  generator : l.generator ≡ generator_at l.fn.seed l.number;
  drops : l.drops ≡ drawn_drops l.fn.seed l.fn.loss l.number;
}
