use Rattle.std.proofs.Common.{◌≡◌, ℕ, ◌<◌, ◌≤◌, bit_xor, slice_index}
use Rattle.fg_words.proofs.lanes.xor_front_rest.Given as goal

abbrev pub invariant-loop-at : goal.invariant-loop-at
invariant-loop-at l = record {
  below : (i : ℕ) → i < l.start → slice_index l.bytes i ≡ slice_index l.initial.bytes i;
  done : (i : ℕ) → l.start ≤ i → i < l.at → slice_index l.bytes i ≡ bit_xor (slice_index l.initial.bytes i) (slice_index l.front i);
  ahead : (i : ℕ) → l.start ≤ i → l.at ≤ i → slice_index l.bytes i ≡ slice_index l.initial.bytes i;
}
