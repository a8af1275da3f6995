-- Near the top the position of a slot's number is the slot.
use Rattle.std.proofs.Common.{◌≡◌, ◌+◌, ◌-◌, ◌%◌, ◌≤◌, ℕ, Some, arith}
use Rattle.fg_unwrap.specs.Position.{position_of}
use Rattle.fg_drill.specs.True.{number_of}

raised_is :
    (sum other_sum top slot : ℕ) → top ≤ slot + 32768 → slot ≤ top + 32767 → sum + slot ≡ other_sum + top
    → top + (other_sum % 65536 + 65536 + 32768 - sum % 65536) % 65536 ≡ slot + 32768
raised_is sum other_sum top slot behind ahead same = omega arith

position_at :
    (top top_seq seq slot : ℕ) → top + (seq + 65536 + 32768 - top_seq) % 65536 ≡ slot + 32768
    → position_of top top_seq seq ≡ Some slot
position_at top top_seq seq slot raised = grind arith

pub position_is :
    (seq top slot : ℕ) → top ≤ slot + 32768 → slot ≤ top + 32767
    → position_of top (number_of seq top) (number_of seq slot) ≡ Some slot
position_is seq top slot behind ahead =
    position_at top (number_of seq top) (number_of seq slot) slot
    (raised_is (seq + top) (seq + slot) top slot behind ahead (omega arith))
