use Rattle.std.proofs.Common.{◌≡◌, ◌<◌, ℕ, None, get_or}
use Rattle.fg_closure.proofs.reading.clear.Given as goal

abbrev pub invariant-loop-place : goal.invariant-loop-place
invariant-loop-place l = (place : ℕ) → place < l.place → get_or l.lines place None ≡ None
