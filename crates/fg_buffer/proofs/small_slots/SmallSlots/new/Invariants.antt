use Rattle.std.proofs.Common.{◌≡◌, ℕ, length, get_or}
use Rattle.fg_buffer.specs.declared.small_slots.SmallSlot.TheVariants.{Nothing}
use Rattle.fg_buffer.proofs.small_slots.SmallSlots.new.Given as goal

abbrev pub invariant-loop : goal.invariant-loop
invariant-loop l =
    (length l.slots.items ≡ l.counter) × ((k : ℕ) → get_or l.slots.items k Nothing ≡ Nothing)
