use Rattle.std.proofs.Common.{arith}
use Rattle.fg_buffer.proofs.HeldWords.{nothing_held, nothing_said}
use Rattle.fg_buffer.proofs.small_slots.SmallSlots.new.Goals as goal

pub invariant_of-result : goal.invariant_of-result
invariant_of-result c =
    nothing_held c.loop.slots.items c.in_ok-with_capacity.field-0 c.loop.invariant.1 c.in_ok-with_capacity.ensures.empty
    (omega (arith, c.in_ok-with_capacity.ensures.capacity, c.loop.invariant.0))

pub returns-clause-empty : goal.returns-clause-empty
returns-clause-empty c = nothing_said c.loop.slots.items c.in_ok-with_capacity.field-0 c.loop.invariant.1
