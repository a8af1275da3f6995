use Rattle.fg_shape.specs.Shape.{slots_of}
use Rattle.fg_peel.specs.Slots.{words_from}
use Rattle.fg_peel.proofs.Misses.{MissesBelow}
use Rattle.fg_peel.proofs.span.Span.missing.Given as goal

abbrev pub invariant-loop-j : goal.invariant-loop-j
invariant-loop-j g l =
    MissesBelow (words_from l.self.start (g.E.EntryRow.slots l.self.entries.now)) (slots_of l.line.base l.line.shape.offset l.line.shape.na) l.j l.found
