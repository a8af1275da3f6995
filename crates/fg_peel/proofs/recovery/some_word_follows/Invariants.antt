use Rattle.fg_peel.specs.Slots.{words_from}
use Rattle.fg_peel.proofs.Lines.{AreLive}
use Rattle.fg_peel.proofs.Closed.{ClosedBut}
use Rattle.fg_peel.proofs.recovery.some_word_follows.Given as goal

-- the lines that are left are live, and nothing follows from the others
abbrev pub invariant-loop-line : goal.invariant-loop-line
invariant-loop-line g l =
    (goal.iterator-loop-line g).can_next l.line-iterator ×
    (goal.iterator-loop-line g).is_finite l.line-iterator ×
    AreLive l.lines l.line-iterator ×
    ClosedBut (words_from l.span.start (g.E.EntryRow.slots l.span.entries.now)) l.lines l.line-iterator
