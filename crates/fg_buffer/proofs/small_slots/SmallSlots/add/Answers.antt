use Rattle.std.proofs.Common.{◌≡◌, ◌<◌, Some, sym, ap, ◌∙◌, ⊎_elim, get_or, set, List, length, arith}
use Rattle.fg_peel.specs.declared.Slot.{Slot}
use Rattle.fg_peel.specs.declared.Slot.TheVariants.{Empty}
use Rattle.fg_peel.specs.Slots.{with_word, word_in}
use Rattle.fg_buffer.specs.declared.small_slots.SmallSlot.TheVariants.{Nothing, Found}
use Rattle.fg_buffer.specs.SmallSlots.{said, said_by, found}
use Rattle.fg_buffer.proofs.HeldWords.{at_is, get_said, gained_said, said_count}
use Rattle.fg_buffer.proofs.small_slots.SmallSlots.add.Goals as goal
use Rattle.fg_buffer.proofs.small_slots.SmallSlots.add.Goals.{After-self, After-index, After-index-2}

module _ (c : After-self) where
  within : c.args.index < length c.self.inside.slots.items
  within = omega (arith, c.requires.within, ap (λ (s : List Slot). length s) c.self.view_is, said_count c.self.inside.words c.self.inside.slots.items)

  inside : c.args.other < length c.self.inside.slots.items
  inside = omega (arith, c.requires.other, ap (λ (s : List Slot). length s) c.self.view_is, said_count c.self.inside.words c.self.inside.slots.items)

pub returns-in-Found-index : goal.returns-in-Found-index
returns-in-Found-index c =
    let s = (goal.at.returns-in-Found-index c).After-self in
    let slots = c.self.inside.slots.items in
    let words = c.self.inside.words in
    let is : get_or slots c.args.index Nothing ≡ Found c.in-Found.place =
    at_is slots c.args.index c.index.result.now (within s) c.index.ensures ∙ c.in-Found.is in
    let from : get_or slots c.args.other Nothing ≡ Found c.in-Found-index.from =
    at_is slots c.args.other c.index-2.result.now (inside s) c.index-2.ensures ∙ c.in-Found-index.is in
    let told : word_in (get_or (said_by words slots) c.args.other Empty) ≡ Some c.index-in-Found-index.result.now =
    ap word_in (get_said words slots c.args.other ∙ ap (said words) from ∙ ap found c.index-in-Found-index.ensures) in
    gained_said slots words c.add_at.new.words c.self.invariant c.args.index c.args.other c.in-Found.place (within s) is
    c.index-in-Found-index.result.now told c.add_at.ensures.changed c.add_at.ensures.others c.add_at.ensures.count c.add_at.ensures.capacity
    ∙ ap (λ (s : List Slot). set s c.args.index (with_word (get_or s c.args.index Empty) (word_in (get_or s c.args.other Empty)))) c.self.view_is

pub returns-in-Media : goal.returns-in-Media
returns-in-Media c =
    let s = (goal.at.returns-in-Media c).After-self in
    let slots = c.self.inside.slots.items in
    let words = c.self.inside.words in
    let is : get_or slots c.args.index Nothing ≡ Found c.in-Found.place =
    at_is slots c.args.index c.index.result.now (within s) c.index.ensures ∙ c.in-Found.is in
    let there : get_or slots c.args.other Nothing ≡ c.index-2.result.now =
    at_is slots c.args.other c.index-2.result.now (inside s) c.index-2.ensures in
    let said_there : word_in (said words c.index-2.result.now) ≡ Some c.in-Media.share =
    ⊎_elim (λ media. ap (λ t. word_in (said words t)) media) (λ solved. ap (λ t. word_in (said words t)) solved) c.in-Media.is in
    let told : word_in (get_or (said_by words slots) c.args.other Empty) ≡ Some c.word.result.now =
    ap word_in (get_said words slots c.args.other ∙ ap (said words) there) ∙ said_there ∙ ap Some (sym c.word.ensures.word) in
    gained_said slots words c.add_at-in-Media.new.words c.self.invariant c.args.index c.args.other c.in-Found.place (within s) is
    c.word.result.now told c.add_at-in-Media.ensures.changed c.add_at-in-Media.ensures.others c.add_at-in-Media.ensures.count
    c.add_at-in-Media.ensures.capacity
    ∙ ap (λ (s : List Slot). set s c.args.index (with_word (get_or s c.args.index Empty) (word_in (get_or s c.args.other Empty)))) c.self.view_is
