use Rattle.std.proofs.Common.{◌≡◌, ◌<◌, ◌||◌, ℕ, false, get_or}
use Rattle.fg_streams.specs.Packets.{carries}
use Rattle.fg_streams.proofs.packets.mark.Given as goal

abbrev pub invariant-loop-number : goal.invariant-loop-number
invariant-loop-number l = (p : ℕ) → p < 8192 → get_or l.marks p false ≡ (carries l.payload p l.number || get_or l.fn.marks p false)
