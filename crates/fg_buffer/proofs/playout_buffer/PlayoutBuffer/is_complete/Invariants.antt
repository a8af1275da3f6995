use Rattle.std.proofs.Common.{◌<◌, ℕ, get_or, IsSome}
use Rattle.fg_shape.specs.Shape.{slots_of}
use Rattle.fg_buffer.specs.PlayoutBuffer.{buffer_words}
use Rattle.fg_buffer.proofs.playout_buffer.PlayoutBuffer.is_complete.Given as goal

abbrev pub invariant-loop-j : goal.invariant-loop-j
invariant-loop-j l =
    (k : ℕ) → k < l.j → IsSome (buffer_words l.self (get_or (slots_of l.line.base l.line.shape.offset l.line.shape.na) k 0))
