use Rattle.std.proofs.Common.{◌≡◌, take}
use Rattle.fg_closure.proofs.InOrder.{lines_in}
use Rattle.fg_closure.proofs.ordering.lines_by_place.Given as goal

abbrev pub invariant-loop-place : goal.invariant-loop-place
invariant-loop-place l = l.lines.items ≡ lines_in (take l.place-index l.table)
