use Rattle.std.proofs.Common.{◌-◌, ◌^◌, ℕ, ap, length, ◌∙◌}
use Rattle.std.proofs.lemmas.List.{length-replicate}
use Rattle.fg_buffer.proofs.LiveInserts.{none_is, none_sound}
use Rattle.fg_buffer.proofs.LiveKeys.{none_keyed}
use Rattle.fg_buffer.proofs.LiveBounds.{nothing_between}
use Rattle.fg_buffer.proofs.live_equations.LiveEquations.new.Goals as goal

pub invariant_of-result : goal.invariant_of-result
invariant_of-result c = record {
  sound = none_sound c.in_ok-with_capacity.field-0 c.in_ok-with_capacity-2.field-0 c.in_ok-new.field-0
      c.in_ok-with_capacity.ensures.empty c.in_ok-with_capacity-2.ensures.empty c.in_ok-new.ensures.count
      c.in_ok-new.ensures.free c.in_ok-with_capacity.ensures.capacity c.in_ok-with_capacity-2.ensures.capacity;
  keyed = none_keyed c.in_ok-vec.field-0.items c.in_ok-with_capacity.field-0 c.in_ok-with_capacity-2.field-0
      (ap length (c.in_ok-vec.ensures.items_if_clones_equal (λ y e. e)) ∙ length-replicate {A = ℕ} 512 0)
      c.in_ok-with_capacity.ensures.empty c.in_ok-with_capacity-2.ensures.empty;
  between = nothing_between (2 ^ 64 - 1) 0 c.in_ok-with_capacity.field-0 c.in_ok-with_capacity-2.field-0
      c.in_ok-with_capacity.ensures.empty c.in_ok-with_capacity-2.ensures.empty;
}

pub returns : goal.returns
returns c =
    none_is c.in_ok-with_capacity.field-0 c.in_ok-with_capacity-2.field-0 c.in_ok-with_capacity.ensures.empty
    c.in_ok-with_capacity-2.ensures.empty
