use Rattle.std.proofs.Common.{◌≡◌, ◌<◌, ◌≤◌, ℕ, length, get_or}
use Rattle.fg_peel.specs.declared.Slot.TheVariants.{Empty}
use Rattle.fg_buffer.specs.BufferEntries.{left_of}
use Rattle.fg_buffer.proofs.entry_list.EntryList.forget.Given as goal

abbrev pub invariant-loop-i : goal.invariant-loop-i
invariant-loop-i l =
    (length l.self ≡ length l.initial.self)
    × ((k : ℕ) → k < 100 → get_or l.self k Empty ≡ get_or l.initial.self k Empty)
    × ((k : ℕ) → 100 ≤ k → k < l.i → get_or l.self k Empty ≡ left_of l.solved (get_or l.initial.self k Empty))
    × ((k : ℕ) → l.i ≤ k → get_or l.self k Empty ≡ get_or l.initial.self k Empty)
