use Rattle.fg_core.specs.Flow.{AreSharesAt}
use Rattle.fg_core.proofs.open.shares_of.Given as goal

abbrev pub invariant-loop-j : goal.invariant-loop-j
invariant-loop-j l = AreSharesAt l.desk l.line l.j l.shares.items
