use Rattle.std.proofs.Common.{arith}
use Rattle.fg_survey.proofs.MatrixTexts.{window_flat, window_tall}
use Rattle.fg_survey.proofs.parts.window.Goals as goal

pub returns-then-matrix-eq0 : goal.returns-then-matrix-eq0
returns-then-matrix-eq0 c = let is = window_flat c.args.matrix c.if-matrix-eq0.true in omega (arith, is, c.min.ensures)

pub returns-else-matrix-eq0 : goal.returns-else-matrix-eq0
returns-else-matrix-eq0 c = let is = window_tall c.args.matrix c.if-matrix-eq0.false in omega (arith, is, c.min-else-matrix-eq0.ensures, c.saturating_mul.ensures)
