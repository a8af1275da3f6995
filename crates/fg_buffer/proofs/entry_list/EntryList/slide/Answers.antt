use Rattle.std.proofs.Common.{◌+◌, ap, ◌∙◌, arith, get_or, List}
use Rattle.fg_peel.specs.declared.Slot.{Slot}
use Rattle.fg_peel.specs.declared.Slot.TheVariants.{Empty}
use Rattle.fg_buffer.proofs.BufferBounds.{bounded_moved}
use Rattle.fg_buffer.proofs.BufferStored.{live_moved}
use Rattle.fg_buffer.proofs.BufferSkips.{all_emptied, none_past, all_moved}
use Rattle.fg_buffer.proofs.entry_list.EntryList.slide.Goals as goal

pub slide_down-requires-clause-empty : goal.slide_down-requires-clause-empty
slide_down-requires-clause-empty c =
    all_emptied c.self.inside.front c.args.count c.self.inside.end c.min-2.result c.self.inside.slots c.args.self.now c.pass_few.new.slots
    c.min-2.ensures c.self.invariant c.self.view_is c.requires.empty c.pass_few.ensures.passed c.pass_few.ensures.above

pub slide_down-requires-clause-past : goal.slide_down-requires-clause-past
slide_down-requires-clause-past c =
    none_past c.self.inside.front c.args.count c.self.inside.end c.min-2.result c.self.inside.slots c.args.self.now c.pass_few.new.slots
    c.min-2.ensures c.self.invariant c.self.view_is c.requires.empty c.pass_few.ensures.passed c.pass_few.ensures.above
    c.min.result (omega (arith, c.min.ensures, c.count.ensures.count))

pub invariant_of-self : goal.invariant_of-self
invariant_of-self c =
    let front = c.self.inside.front in
    let count = c.args.count in
    let moved = all_moved front count c.self.inside.end c.min-2.result c.self.inside.slots c.args.self.now c.pass_few.new.slots
    c.min-2.ensures c.self.invariant c.self.view_is c.requires.empty c.pass_few.ensures.passed c.pass_few.ensures.above
    c.slide_down.new.slots c.slide_down.ensures.moved in
    bounded_moved front count c.self.inside.slots c.self.inside.end c.saturating_sub-self-inside.result c.self.invariant front
    c.slide_down.new.slots (c.slide_down.ensures.count ∙ c.pass_few.ensures.count) c.self.invariant.0.near moved
    (omega (arith, c.saturating_sub-self-inside.ensures))

pub returns-clause-moved : goal.returns-clause-moved
returns-clause-moved c k =
    let front = c.self.inside.front in
    let count = c.args.count in
    let moved = all_moved front count c.self.inside.end c.min-2.result c.self.inside.slots c.args.self.now c.pass_few.new.slots
    c.min-2.ensures c.self.invariant c.self.view_is c.requires.empty c.pass_few.ensures.passed c.pass_few.ensures.above
    c.slide_down.new.slots c.slide_down.ensures.moved in
    live_moved front count c.self.inside.slots c.self.invariant.0 front c.slide_down.new.slots
    (c.slide_down.ensures.count ∙ c.pass_few.ensures.count) c.self.invariant.0.near moved k
    ∙ ap (λ (s : List Slot). get_or s (k + count) Empty) c.self.view_is
