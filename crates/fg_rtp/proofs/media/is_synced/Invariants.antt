use Rattle.std.proofs.Common.{◌≡◌, ℕ, ◌+◌, ◌*◌, ◌<◌, slice_index}
use Rattle.fg_rtp.proofs.media.is_synced.Given as goal

abbrev pub invariant-loop-packet : goal.invariant-loop-packet
invariant-loop-packet l = (i : ℕ) → i < l.packet → slice_index l.bytes (12 + 188 * i) ≡ 0x47
