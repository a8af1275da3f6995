use Rattle.std.proofs.Common.{◌≡◌}
use Rattle.fg_shape.specs.Shape.{slots_of}
use Rattle.fg_peel.proofs.Filling.{IsFilling}
use Rattle.fg_peel.proofs.recovery.fill.Given as goal

abbrev pub invariant-loop-j : goal.invariant-loop-j
invariant-loop-j g l =
    IsFilling l.start (g.E.EntryRow.slots l.fn.entries) l.position (slots_of l.line.base l.line.shape.offset l.line.shape.na) l.line.parity l.j (g.E.EntryRow.slots l.entries)
    × (g.E.EntryRow.rest l.entries ≡ g.E.EntryRow.rest l.fn.entries)
