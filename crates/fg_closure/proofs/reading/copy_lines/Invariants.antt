use Rattle.fg_closure.specs.Watched.{EachIsQueued}
use Rattle.fg_closure.proofs.Readings.{IsCopying}
use Rattle.fg_closure.proofs.reading.copy_lines.Given as goal

abbrev pub invariant-loop-line : goal.invariant-loop-line
invariant-loop-line l =
    (goal.iterator-loop-line).can_next l.line-iterator ×
    (goal.iterator-loop-line).is_finite l.line-iterator ×
    IsCopying l.live l.initial.lines l.lines l.line-iterator × EachIsQueued l.lines l.watches
