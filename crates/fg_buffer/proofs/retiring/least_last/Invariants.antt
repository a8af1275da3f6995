use Rattle.std.proofs.Common.{◌<◌, ◌≤◌}
use Rattle.fg_peel.specs.Slots.{equation_of}
use Rattle.fg_peel.specs.Live.{last_slot}
use Rattle.fg_buffer.proofs.LiveSearch.{Searches}
use Rattle.fg_buffer.proofs.retiring.least_last.Given as goal

abbrev pub invariant-loop-line : goal.invariant-loop-line
invariant-loop-line l =
    (goal.iterator-loop-line).can_next l.line-iterator ×
    (goal.iterator-loop-line).is_finite l.line-iterator ×
    (l.least ≤ l.most) × Searches (λ line. last_slot (equation_of line) < l.least) l.lines l.line-iterator
