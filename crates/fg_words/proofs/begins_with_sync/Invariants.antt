use Rattle.std.proofs.Common.{◌≡◌, ℕ, ◌*◌, ◌<◌, slice_index}
use Rattle.fg_words.proofs.begins_with_sync.Given as goal

abbrev pub invariant-loop-packet : goal.invariant-loop-packet
invariant-loop-packet l = (i : ℕ) → i < l.packet → slice_index l.bytes (188 * i) ≡ 0x47
