use Rattle.std.proofs.Common.{◌<◌, ◌≤◌, ℕ, get_or, IsSome}
use Rattle.fg_shape.specs.Shape.{slots_of}
use Rattle.fg_peel.specs.Slots.{words_from}
use Rattle.fg_peel.proofs.span.Span.next_gap.Given as goal

abbrev pub invariant-loop-number : goal.invariant-loop-number
invariant-loop-number g l =
    (j : ℕ) → l.from ≤ j → j < l.number
    → IsSome (words_from l.self.start (g.E.EntryRow.slots l.self.entries.now) (get_or (slots_of l.line.base l.line.shape.offset l.line.shape.na) j 0))
