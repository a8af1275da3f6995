use Rattle.fg_peel.proofs.Lines.{FitsBut}
use Rattle.fg_peel_tests.proofs.peeling.lines_fit.Given as goal

-- each line is left, or fits
abbrev pub invariant-loop-line : goal.invariant-loop-line
invariant-loop-line l =
    (goal.iterator-loop-line).can_next l.line-iterator ×
    (goal.iterator-loop-line).is_finite l.line-iterator ×
    FitsBut l.start l.slots l.lines l.line-iterator
