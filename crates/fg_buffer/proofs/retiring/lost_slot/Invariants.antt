use Rattle.std.proofs.Common.{◌<◌, ℕ, get_or, IsSome}
use Rattle.std.specs.FinMap.{get}
use Rattle.fg_shape.specs.Shape.{slots_of}
use Rattle.fg_buffer.proofs.retiring.lost_slot.Given as goal

abbrev pub invariant-loop-j : goal.invariant-loop-j
invariant-loop-j l =
    (k : ℕ) → k < l.j → get_or (slots_of l.base l.shape.offset l.shape.na) k 0 < l.buffer.mark
    → IsSome (get l.buffer.kept (get_or (slots_of l.base l.shape.offset l.shape.na) k 0))
