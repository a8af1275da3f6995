use Rattle.std.proofs.Common.{◌≡◌, ◌<◌, ap, ◌∙◌, get_or, set, List, length, arith}
use Rattle.fg_peel.specs.declared.Slot.{Slot}
use Rattle.fg_peel.specs.declared.Slot.TheVariants.{Empty}
use Rattle.fg_buffer.proofs.HeldWords.{Changes, changes_held, changes_said, fills, has_room, said_count}
use Rattle.fg_buffer.specs.SmallSlots.{found, said_by}
use Rattle.fg_buffer.specs.declared.small_slots.SmallSlot.TheVariants.{Found}
use Rattle.fg_peel.specs.declared.Slot.TheVariants as slot
use Rattle.fg_buffer.proofs.small_slots.SmallSlots.fill.Goals as goal
use Rattle.fg_buffer.proofs.small_slots.SmallSlots.fill.Goals.{After-self, After-insert_reserved}

module _ (c : After-self) where
  within : c.args.index < length c.self.inside.slots.items
  within =
      omega (arith, c.requires.within, ap (λ (s : List Slot). length s) c.self.view_is, said_count c.self.inside.words c.self.inside.slots.items)

  empty : get_or (said_by c.self.inside.words c.self.inside.slots.items) c.args.index Empty ≡ Empty
  empty = ap (λ (s : List Slot). get_or s c.args.index Empty) c.self.view_is ∙ c.requires.empty

pub insert_reserved-requires : goal.insert_reserved-requires
insert_reserved-requires c =
    let s = (goal.at.insert_reserved-requires c).After-self in
    has_room c.self.inside.slots.items c.self.inside.words c.self.invariant c.args.index (within s) (empty s)

change :
    (c : After-insert_reserved) → c.args.index < length c.self.inside.slots.items
    → get_or (said_by c.self.inside.words c.self.inside.slots.items) c.args.index Empty ≡ Empty
    → Changes c.self.inside.slots.items c.self.inside.words c.insert_reserved.new.self c.args.index (Found c.insert_reserved.result)
change c inside none =
    fills c.self.inside.slots.items c.self.inside.words c.self.invariant c.args.index inside c.insert_reserved.new.self
    c.insert_reserved.result c.args.word.now c.insert_reserved.ensures.was_vacant c.insert_reserved.ensures.updates.changed
    c.insert_reserved.ensures.updates.others c.insert_reserved.ensures.len c.insert_reserved.ensures.capacity none

pub invariant_of-self : goal.invariant_of-self
invariant_of-self c =
    changes_held c.self.inside.slots.items c.self.inside.words c.insert_reserved.new.self c.args.index (Found c.insert_reserved.result)
    (change (goal.at.invariant_of-self c).After-insert_reserved (within (goal.at.invariant_of-self c).After-self) (empty (goal.at.invariant_of-self c).After-self)) c.self.invariant

pub returns : goal.returns
returns c =
    changes_said c.self.inside.slots.items c.self.inside.words c.insert_reserved.new.self c.args.index (Found c.insert_reserved.result)
    (change (goal.at.returns c).After-insert_reserved (within (goal.at.returns c).After-self) (empty (goal.at.returns c).After-self))
    ∙ ap (λ (e : Slot). set (said_by c.self.inside.words c.self.inside.slots.items) c.args.index e)
    (ap found c.insert_reserved.ensures.updates.changed)
    ∙ ap (λ (s : List Slot). set s c.args.index (slot.Filled c.args.word.now)) c.self.view_is
