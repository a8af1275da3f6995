use Rattle.fg_core.proofs.Opening.{IsBest}
use Rattle.fg_core.proofs.open.least_open.Given as goal

abbrev pub invariant-loop-line : goal.invariant-loop-line
invariant-loop-line l =
    (goal.iterator-loop-line).can_next l.line-iterator ×
    (goal.iterator-loop-line).is_finite l.line-iterator ×
    IsBest l.desk l.notes l.lines l.fn.best l.least l.line-iterator
