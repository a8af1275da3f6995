use Rattle.std.proofs.Common.{◌≡◌, ◌+◌, ◌*◌, IsTrue}
use Rattle.fg_peel.specs.Slots.{equations_of, words_from}
use Rattle.fg_peel.specs.Recovery.{IsPeeled, StayClosed, StayMedia, empty_count}
use Rattle.fg_peel.proofs.Lines.{AreLive}
use Rattle.fg_peel.proofs.Closed.{ClosedAtBut}
use Rattle.fg_peel.proofs.recovery.+filling.Given as goal

-- a visit that goes on has filled an entry
abbrev pub decreases-visit : goal.decreases-visit
decreases-visit g l = 2 * empty_count (g.E.EntryRow.slots l.entries.now)

abbrev pub decreases-follow : goal.decreases-follow
decreases-follow g l = 2 * empty_count (g.E.EntryRow.slots l.entries.now) + 1

-- the lines that are left are live, and nothing follows from the others that have the slot
abbrev pub invariant-follow-loop-line : goal.invariant-follow-loop-line
invariant-follow-loop-line g l =
    (goal.iterator-follow-loop-line g).can_next l.line-iterator ×
    (goal.iterator-follow-loop-line g).is_finite l.line-iterator ×
    AreLive l.lines l.line-iterator ×
    IsPeeled l.start (equations_of l.lines) (g.E.EntryRow.slots l.fn.entries) (g.E.EntryRow.slots l.entries) ×
    StayClosed (words_from l.start (g.E.EntryRow.slots l.fn.entries)) (words_from l.start (g.E.EntryRow.slots l.entries)) l.lines ×
    ClosedAtBut (words_from l.start (g.E.EntryRow.slots l.entries)) l.lines l.filled l.line-iterator ×
    (IsTrue l.media → StayMedia (words_from l.start (g.E.EntryRow.slots l.fn.entries)) (words_from l.start (g.E.EntryRow.slots l.entries))) ×
    (g.E.EntryRow.rest l.entries ≡ g.E.EntryRow.rest l.fn.entries)
