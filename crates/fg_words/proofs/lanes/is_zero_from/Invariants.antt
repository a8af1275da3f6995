use Rattle.std.proofs.Common.{◌≡◌, ℕ, ◌<◌, ◌≤◌, slice_index}
use Rattle.fg_words.proofs.lanes.is_zero_from.Given as goal

abbrev pub invariant-loop-at : goal.invariant-loop-at
invariant-loop-at l = (i : ℕ) → l.start ≤ i → i < l.at → slice_index l.bytes i ≡ 0
