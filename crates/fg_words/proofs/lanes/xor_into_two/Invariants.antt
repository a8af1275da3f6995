use Rattle.std.proofs.Common.{◌≡◌, ℕ, ◌*◌, ◌<◌, ◌≤◌, bit_xor, length, slice_index}
use Rattle.fg_words.proofs.lanes.xor_into_two.Given as goal

abbrev pub invariant-loop-vector : goal.invariant-loop-vector
invariant-loop-vector l = record {
  long : length l.one ≡ 1316;
  other_long : length l.other ≡ 1316;
  done : (i : ℕ) → i < 32 * l.vector → slice_index l.one i ≡ bit_xor (slice_index l.initial.one i) (slice_index l.bytes i);
  other_done : (i : ℕ) → i < 32 * l.vector → slice_index l.other i ≡ bit_xor (slice_index l.initial.other i) (slice_index l.bytes i);
  ahead : (i : ℕ) → 32 * l.vector ≤ i → slice_index l.one i ≡ slice_index l.initial.one i;
  other_ahead : (i : ℕ) → 32 * l.vector ≤ i → slice_index l.other i ≡ slice_index l.initial.other i;
}
