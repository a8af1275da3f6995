use Rattle.std.proofs.Common.{◌≡◌, ℕ, ◌+◌, ◌*◌, ◌<◌, ◌↔◌, length, slice_index}
use Rattle.fg_words.proofs.lanes.union_of_whole.Given as goal

abbrev pub invariant-loop-vector : goal.invariant-loop-vector
invariant-loop-vector l = record {
  lanes : length l.union ≡ 32;
  seen : (j : ℕ) → j < 32 → (slice_index l.union j ≡ 0) ↔ ((k : ℕ) → k < l.vector → slice_index l.bytes (32 * k + j) ≡ 0);
}
