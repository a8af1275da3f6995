use Rattle.std.proofs.Common.{◌≡◌, IsTrue}
use Rattle.fg_peel.specs.Slots.{equations_of, words_from}
use Rattle.fg_peel.specs.Recovery.{IsPeeled, StayMedia}
use Rattle.fg_peel.proofs.Lines.{AreLive}
use Rattle.fg_peel.proofs.Closed.{ClosedBut}
use Rattle.fg_peel.proofs.recovery.fill_all.Given as goal

-- the lines that are left are live, and nothing follows from the others
abbrev pub invariant-loop-line : goal.invariant-loop-line
invariant-loop-line g l =
    (goal.iterator-loop-line g).can_next l.line-iterator ×
    (goal.iterator-loop-line g).is_finite l.line-iterator ×
    AreLive l.lines l.line-iterator ×
    IsPeeled l.start (equations_of l.lines) (g.E.EntryRow.slots l.fn.entries) (g.E.EntryRow.slots l.entries) ×
    ClosedBut (words_from l.start (g.E.EntryRow.slots l.entries)) l.lines l.line-iterator ×
    (IsTrue l.media → StayMedia (words_from l.start (g.E.EntryRow.slots l.fn.entries)) (words_from l.start (g.E.EntryRow.slots l.entries))) ×
    (g.E.EntryRow.rest l.entries ≡ g.E.EntryRow.rest l.fn.entries)
