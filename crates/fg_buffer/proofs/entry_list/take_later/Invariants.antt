use Rattle.std.proofs.Common.{◌≡◌, ◌+◌, ◌<◌, ◌≤◌, ℕ, max, length, get_or}
use Rattle.fg_peel.specs.declared.Slot.TheVariants.{Empty}
use Rattle.fg_buffer.proofs.entry_list.take_later.Given as goal

abbrev pub invariant-loop-i : goal.invariant-loop-i
invariant-loop-i l =
    (length l.slots ≡ length l.initial.slots)
    × ((k : ℕ) → k + l.count < l.i → get_or l.slots k Empty ≡ get_or l.initial.slots (k + l.count) Empty)
    × ((k : ℕ) → l.i ≤ k → get_or l.slots k Empty ≡ get_or l.initial.slots k Empty)
    × (l.i ≤ max l.count l.end)
