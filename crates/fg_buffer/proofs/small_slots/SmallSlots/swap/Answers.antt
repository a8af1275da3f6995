use Rattle.std.proofs.Common.{◌<◌, ap, ◌∙◌, get_or, set, List, length, arith}
use Rattle.fg_peel.specs.declared.Slot.{Slot}
use Rattle.fg_peel.specs.declared.Slot.TheVariants.{Empty}
use Rattle.fg_buffer.proofs.HeldWords.{said_count, swapped_held, swapped_said}
use Rattle.fg_buffer.proofs.small_slots.SmallSlots.swap.Goals as goal
use Rattle.fg_buffer.proofs.small_slots.SmallSlots.swap.Goals.{After-self}

module _ (c : After-self) where
  one : c.args.one < length c.self.inside.slots.items
  one = omega (arith, c.requires.one, ap (λ (s : List Slot). length s) c.self.view_is, said_count c.self.inside.words c.self.inside.slots.items)

  other : c.args.other < length c.self.inside.slots.items
  other = omega (arith, c.requires.other, ap (λ (s : List Slot). length s) c.self.view_is, said_count c.self.inside.words c.self.inside.slots.items)

pub invariant_of-self : goal.invariant_of-self
invariant_of-self c =
    let s = (goal.at.invariant_of-self c).After-self in
    swapped_held c.self.inside.slots.items c.self.inside.words c.args.one c.args.other (one s) (other s) c.swap.new.self.items
    c.swap.ensures.items c.self.invariant

pub returns : goal.returns
returns c =
    let s = (goal.at.returns c).After-self in
    swapped_said c.self.inside.slots.items c.self.inside.words c.args.one c.args.other (one s) (other s) c.swap.new.self.items
    c.swap.ensures.items
    ∙ ap (λ (s : List Slot). set (set s c.args.one (get_or s c.args.other Empty)) c.args.other (get_or s c.args.one Empty)) c.self.view_is
