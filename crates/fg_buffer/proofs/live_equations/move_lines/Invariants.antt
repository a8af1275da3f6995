use Rattle.std.proofs.Common.{not}
use Rattle.fg_buffer.specs.PlayoutBuffer.{buffer_words}
use Rattle.fg_buffer.specs.LiveInside.{IsCompleteAs, AreKeyed}
use Rattle.fg_buffer.proofs.LiveMoves.{MovesBelow}
use Rattle.fg_buffer.proofs.live_equations.move_lines.Given as goal

abbrev pub invariant-loop-key : goal.invariant-loop-key
invariant-loop-key l =
    MovesBelow (IsCompleteAs (not l.complete) (buffer_words l.buffer)) (IsCompleteAs l.complete (buffer_words l.buffer)) l.key
    l.initial.source l.initial.target l.source l.target
    × AreKeyed l.keys l.source l.target
