use Rattle.std.proofs.Common.{◌≡◌, ◌+◌, ◌-◌, ◌<◌, ◌≤◌, ℕ, length, get_or}
use Rattle.fg_peel.specs.declared.Slot.TheVariants.{Empty}
use Rattle.fg_buffer.proofs.entry_list.slide_down.Given as goal

abbrev pub invariant-loop-i : goal.invariant-loop-i
invariant-loop-i l =
    (length l.slots ≡ length l.initial.slots)
    × ((k : ℕ) → l.first ≤ k → k + l.count < l.i → get_or l.slots k Empty ≡ get_or l.initial.slots (k + l.count) Empty)
    × ((k : ℕ) → l.first ≤ k → l.i ≤ k + l.count → k < l.i → get_or l.slots k Empty ≡ Empty)
    × ((k : ℕ) → l.i ≤ k → get_or l.slots k Empty ≡ get_or l.initial.slots k Empty)
    × (l.first + l.count ≤ l.i)

abbrev pub decreases-loop-i : goal.decreases-loop-i
decreases-loop-i l = l.end - l.i
