use Rattle.std.proofs.Common.{◌≡◌, ◌<◌, sym, ap, ◌∙◌, subst, get_or, set, List, length, arith}
use Rattle.std.proofs.Common.{refl}
use Rattle.fg_peel.specs.declared.Slot.{Slot}
use Rattle.fg_peel.specs.declared.Slot.TheVariants.{Empty}
use Rattle.fg_buffer.specs.declared.small_slots.SmallSlot.{SmallSlot}
use Rattle.fg_buffer.specs.declared.small_slots.SmallSlot.TheVariants.{Nothing, Found}
use Rattle.fg_buffer.specs.SmallSlots.{said_by, AreHeld}
use Rattle.fg_buffer.proofs.HeldWords.{changes_held, changes_said, clears, puts, at_is, no_place_at, said_count}
use Rattle.fg_buffer.proofs.small_slots.SmallSlots.clear.Goals as goal
use Rattle.fg_buffer.proofs.small_slots.SmallSlots.clear.Goals.{After-replace}

module _ (c : After-replace) where
  within : c.args.index < length c.self.inside.slots.items
  within = omega (arith, c.requires, ap (λ (s : List Slot). length s) c.self.view_is, said_count c.self.inside.words c.self.inside.slots.items)

  was : c.replace.result ≡ get_or c.self.inside.slots.items c.args.index c.replace.result
  was = c.replace.ensures.value ∙ c.index_mut.ensures.value
      ∙ ap (λ (s : SmallSlot). get_or c.self.inside.slots.items c.args.index s) (sym c.replace.ensures.value)

pub invariant_of-self : goal.invariant_of-self
invariant_of-self c =
    let r = (goal.at.invariant_of-self c).After-replace in
    let slots = c.self.inside.slots.items in
    let words = c.self.inside.words in
    let is : get_or slots c.args.index Nothing ≡ Found c.in-Found.place =
    at_is slots c.args.index c.replace.result (within r) (was r) ∙ c.in-Found.is in
    subst (λ (s : SmallSlot). AreHeld (set slots c.args.index s) c.remove.new.self) (sym c.replace.ensures.after)
    (changes_held slots words c.remove.new.self c.args.index Nothing
    (clears slots words c.self.invariant c.args.index (within r) c.remove.new.self c.in-Found.place is c.remove.ensures.updates.others
    c.remove.ensures.len c.remove.ensures.capacity)
    c.self.invariant)

pub invariant_of-self-in_default : goal.invariant_of-self-in_default
invariant_of-self-in_default c =
    let r = (goal.at.invariant_of-self-in_default c).After-replace in
    let slots = c.self.inside.slots.items in
    let words = c.self.inside.words in
    subst (λ (s : SmallSlot). AreHeld (set slots c.args.index s) words) (sym c.replace.ensures.after)
    (changes_held slots words words c.args.index Nothing
    (puts slots words c.self.invariant c.args.index (within r) Nothing
    (no_place_at slots c.args.index c.replace.result (within r) (was r) c.in_default.not-Found) refl)
    c.self.invariant)

pub returns-in-Found : goal.returns-in-Found
returns-in-Found c =
    let r = (goal.at.returns-in-Found c).After-replace in
    let slots = c.self.inside.slots.items in
    let words = c.self.inside.words in
    let is : get_or slots c.args.index Nothing ≡ Found c.in-Found.place =
    at_is slots c.args.index c.replace.result (within r) (was r) ∙ c.in-Found.is in
    ap (λ (s : SmallSlot). said_by c.remove.new.self (set slots c.args.index s)) c.replace.ensures.after
    ∙ changes_said slots words c.remove.new.self c.args.index Nothing
    (clears slots words c.self.invariant c.args.index (within r) c.remove.new.self c.in-Found.place is c.remove.ensures.updates.others
    c.remove.ensures.len c.remove.ensures.capacity)
    ∙ ap (λ (s : List Slot). set s c.args.index Empty) c.self.view_is

pub returns-in_default : goal.returns-in_default
returns-in_default c =
    let r = (goal.at.returns-in_default c).After-replace in
    let slots = c.self.inside.slots.items in
    let words = c.self.inside.words in
    ap (λ (s : SmallSlot). said_by words (set slots c.args.index s)) c.replace.ensures.after
    ∙ changes_said slots words words c.args.index Nothing
    (puts slots words c.self.invariant c.args.index (within r) Nothing
    (no_place_at slots c.args.index c.replace.result (within r) (was r) c.in_default.not-Found) refl)
    ∙ ap (λ (s : List Slot). set s c.args.index Empty) c.self.view_is
