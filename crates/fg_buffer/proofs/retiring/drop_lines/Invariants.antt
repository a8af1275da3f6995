use Rattle.fg_peel.specs.Slots.{equation_of}
use Rattle.fg_peel.specs.Live.{Survives}
use Rattle.fg_buffer.proofs.LiveMoves.{DropsBelow}
use Rattle.fg_buffer.proofs.retiring.drop_lines.Given as goal

abbrev pub invariant-loop-key : goal.invariant-loop-key
invariant-loop-key l =
    DropsBelow (λ line. Survives l.buffer.mark l.buffer.kept (equation_of line)) l.key l.initial.lines l.lines l.initial.places
    l.places
