use Rattle.fg_buffer.proofs.BufferBounds.{bounded_kept, none_left}
use Rattle.std.proofs.Common.{◌<◌, ◌+◌, length, get_or, set, List, sym, ap, ◌∙◌, arith}
use Rattle.fg_peel.specs.declared.Slot.{Slot}
use Rattle.fg_peel.specs.declared.Slot.TheVariants.{Empty}
use Rattle.fg_buffer.specs.BufferEntries.{live_entries, left_of}
use Rattle.fg_buffer.proofs.BufferStored.{live_set, stored_at}
use Rattle.fg_buffer.proofs.entry_list.EntryList.forget_one.Goals as goal

pub returns : goal.returns
returns c =
    let front = c.self.inside.front in
    let old : List Slot = c.self.inside.slots in
    let inside : c.args.index < length (live_entries front old) = omega (arith, c.requires, ap (λ (s : List Slot). length s) c.self.view_is) in
    ap (live_entries front) (c.forget.ensures
    ∙ ap (λ (x : Slot). set old (front + c.args.index) (left_of c.args.solved x)) (sym (stored_at front old c.self.invariant.0 c.args.index)))
    ∙ live_set front old c.self.invariant.0 c.args.index (left_of c.args.solved (get_or (live_entries front old) c.args.index Empty)) inside
    ∙ ap (λ (s : List Slot). set s c.args.index (left_of c.args.solved (get_or s c.args.index Empty))) c.self.view_is

pub invariant_of-self : goal.invariant_of-self
invariant_of-self c =
    let front = c.self.inside.front in
    let old : List Slot = c.self.inside.slots in
    bounded_kept front old c.forget.new.self c.args.self.now c.self.inside.end c.self.invariant c.args.index _ c.requires c.self.view_is c.forget.ensures
    (none_left c.args.solved (get_or old (front + c.args.index) Empty))
