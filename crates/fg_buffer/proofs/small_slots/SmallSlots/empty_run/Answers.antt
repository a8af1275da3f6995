use Rattle.std.proofs.Common.{◌≡◌, ◌+◌, ◌<◌, ℕ, List, length, get_or, take, drop, ◌-◌, sym, ap, subst, ◌∙◌, ⊎_elim, arith}
use Rattle.std.proofs.lemmas.Bool.{cases_lt}
use Rattle.fg_buffer.specs.declared.small_slots.SmallSlot.{SmallSlot}
use Rattle.fg_buffer.specs.declared.small_slots.SmallSlot.TheVariants.{Nothing}
use Rattle.fg_buffer.proofs.HeldWords.{said_nothing, part_item}
use Rattle.fg_buffer.proofs.small_slots.SmallSlots.empty_run.Goals as goal

pub loop-count-preserved : goal.loop-count-preserved
loop-count-preserved c k from below = ⊎_elim
    (λ before. c.loop-count.invariant k from before)
    (λ last.
    let at : k ≡ c.args.first + c.loop-count.count = omega (arith, below, last) in
    said_nothing c.self.inside.words c.self.inside.slots.items c.args.self.now c.self.view_is k
    (ap (λ (j : ℕ). get_or c.self.inside.slots.items j Nothing) at
    ∙ sym (part_item c.self.inside.slots.items c.args.first c.args.end c.loop-count.count c.slot-item.result
    (subst (λ (ss : List SmallSlot). c.loop-count.count < length (take (c.args.end - c.args.first) (drop c.args.first ss))) c.deref.ensures.value
    c.loop-count-test.true))
    ∙ sym (ap (λ (ss : List SmallSlot). get_or (take (c.args.end - c.args.first) (drop c.args.first ss)) c.loop-count.count c.slot-item.result) c.deref.ensures.value)
    ∙ sym c.slot-item.is ∙ c.in-Nothing.is))
    (cases_lt k (c.args.first + c.loop-count.count))
