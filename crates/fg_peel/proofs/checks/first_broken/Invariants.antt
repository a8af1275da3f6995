use Rattle.std.proofs.Common.{IfSome}
use Rattle.fg_peel.specs.Slots.{words_from}
use Rattle.fg_peel.specs.Verdict.{BreaksAt}
use Rattle.fg_peel.proofs.Lines.{AreLive}
use Rattle.fg_peel.proofs.Broken.{BrokenBut}
use Rattle.fg_peel.proofs.checks.first_broken.Given as goal

-- the lines that are left are live, and the least place is that of a broken line, and of no later one among the others
abbrev pub invariant-loop-line : goal.invariant-loop-line
invariant-loop-line g l =
    (goal.iterator-loop-line g).can_next l.line-iterator ×
    (goal.iterator-loop-line g).is_finite l.line-iterator ×
    AreLive l.lines l.line-iterator ×
    IfSome l.least (BreaksAt (words_from l.span.start (g.E.EntryRow.slots l.span.entries.now)) l.lines) ×
    BrokenBut (words_from l.span.start (g.E.EntryRow.slots l.span.entries.now)) l.lines l.least l.line-iterator
