use Rattle.fg_buffer.proofs.BufferBounds.{bounded_moved}
use Rattle.std.proofs.Common.{◌≡◌, ◌+◌, ℕ, get_or, List, ap, ◌∙◌, arith}
use Rattle.fg_peel.specs.declared.Slot.{Slot}
use Rattle.fg_peel.specs.declared.Slot.TheVariants.{Empty}
use Rattle.fg_buffer.proofs.BufferStored.{live_moved}
use Rattle.fg_buffer.proofs.BufferSkips.{none_from}
use Rattle.fg_buffer.proofs.entry_list.EntryList.advance.Goals as goal

pub shift_down-requires-clause-past : goal.shift_down-requires-clause-past
shift_down-requires-clause-past c =
    none_from c.self.inside.front c.self.inside.end c.self.inside.slots c.args.self.now c.self.invariant c.self.view_is c.min.result
    (omega (arith, c.min.ensures, c.count.ensures.count))

pub returns-then-end-le-SLACK-clause-moved : goal.returns-then-end-le-SLACK-clause-moved
returns-then-end-le-SLACK-clause-moved c k =
    let front = c.self.inside.front in
    let count = c.args.count in
    live_moved front count c.self.inside.slots c.self.invariant.0 (front + count) c.pass_all.new.slots c.pass_all.ensures.count
    c.if-end-le-SLACK.true (λ j. c.pass_all.ensures.above (front + count + j) (omega arith)) k
    ∙ ap (λ (s : List Slot). get_or s (k + count) Empty) c.self.view_is

pub returns-else-end-le-SLACK-clause-moved : goal.returns-else-end-le-SLACK-clause-moved
returns-else-end-le-SLACK-clause-moved c k =
    let front = c.self.inside.front in
    let count = c.args.count in
    live_moved front count c.self.inside.slots c.self.invariant.0 0 c.shift_down.new.slots c.shift_down.ensures.count (omega arith)
    (λ j.
    let from_zero : 0 + j ≡ j = omega arith in
    let order : j + (front + count) ≡ front + count + j = omega arith in
    ap (λ (n : ℕ). get_or c.shift_down.new.slots n Empty) from_zero ∙ c.shift_down.ensures.moved j
    ∙ ap (λ (n : ℕ). get_or c.self.inside.slots n Empty) order)
    k
    ∙ ap (λ (s : List Slot). get_or s (k + count) Empty) c.self.view_is

pub invariant_of-self : goal.invariant_of-self
invariant_of-self c =
    let front = c.self.inside.front in
    let count = c.args.count in
    bounded_moved front count c.self.inside.slots c.self.inside.end c.saturating_sub-self-inside.result c.self.invariant (front + count)
    c.pass_all.new.slots c.pass_all.ensures.count c.if-end-le-SLACK.true
    (λ j. c.pass_all.ensures.above (front + count + j) (omega arith)) (omega arith)

pub invariant_of-self-else-end-le-SLACK : goal.invariant_of-self-else-end-le-SLACK
invariant_of-self-else-end-le-SLACK c =
    let front = c.self.inside.front in
    let count = c.args.count in
    bounded_moved front count c.self.inside.slots c.self.inside.end c.saturating_sub-self-inside.result c.self.invariant 0
    c.shift_down.new.slots c.shift_down.ensures.count (omega arith)
    (λ j.
    let from_zero : 0 + j ≡ j = omega arith in
    let order : j + (front + count) ≡ front + count + j = omega arith in
    ap (λ (n : ℕ). get_or c.shift_down.new.slots n Empty) from_zero ∙ c.shift_down.ensures.moved j
    ∙ ap (λ (n : ℕ). get_or c.self.inside.slots n Empty) order) (omega arith)
