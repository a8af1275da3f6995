use Rattle.std.proofs.Common.{◌≡◌, ℕ, ◌*◌, ◌<◌, ◌≤◌, bit_xor, length, slice_index}
use Rattle.fg_words.proofs.lanes.xor_bytes.Given as goal

abbrev pub invariant-loop-vector : goal.invariant-loop-vector
invariant-loop-vector l = record {
  long : length l.bytes ≡ 1316;
  done : (i : ℕ) → i < 32 * l.vector → slice_index l.bytes i ≡ bit_xor (slice_index l.initial.bytes i) (slice_index l.other i);
  ahead : (i : ℕ) → 32 * l.vector ≤ i → slice_index l.bytes i ≡ slice_index l.initial.bytes i;
}
