use Rattle.fg_peel.specs.Slots.{equation_of}
use Rattle.fg_peel.specs.Live.{HasSlots}
use Rattle.fg_buffer.proofs.LiveSearch.{Searches}
use Rattle.fg_buffer.proofs.line_slab.find_in.Given as goal

abbrev pub invariant-loop-line : goal.invariant-loop-line
invariant-loop-line l =
    (goal.iterator-loop-line).can_next l.line-iterator ×
    (goal.iterator-loop-line).is_finite l.line-iterator ×
    Searches (λ line. HasSlots l.base l.shape.offset l.shape.na (equation_of line)) l.lines l.line-iterator
