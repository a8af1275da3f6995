use Rattle.std.proofs.Common.{sym, subst}
use Rattle.fg_buffer.specs.BufferEntries.{AreStored, HasNoWordFrom}
use Rattle.fg_buffer.proofs.BufferStored.{stored_set}
use Rattle.fg_buffer.proofs.BufferBounds.{none_after_put}
use Rattle.std.proofs.Common.{◌<◌, length, set, List, ap, ◌∙◌, arith}
use Rattle.fg_peel.specs.declared.Slot.{Slot}
use Rattle.fg_peel.specs.declared.Slot.TheVariants.{Filled}
use Rattle.fg_buffer.specs.BufferEntries.{live_entries}
use Rattle.fg_buffer.proofs.BufferStored.{live_set}
use Rattle.fg_buffer.proofs.entry_list.EntryList.fill.Goals as goal

pub returns : goal.returns
returns c =
    let front = c.self.inside.front in
    let old : List Slot = c.self.inside.slots in
    let inside : c.args.index < length (live_entries front old) = omega (arith, c.requires.within, ap (λ (s : List Slot). length s) c.self.view_is) in
    ap (live_entries front) c.fill.ensures
    ∙ live_set front old c.self.invariant.0 c.args.index (Filled c.args.word.now) inside
    ∙ ap (λ (s : List Slot). set s c.args.index (Filled c.args.word.now)) c.self.view_is

pub invariant_of-self : goal.invariant_of-self
invariant_of-self c =
    let front = c.self.inside.front in
    let old : List Slot = c.self.inside.slots in
    let inside : c.args.index < length (live_entries front old) = omega (arith, c.requires.within, ap (λ (s : List Slot). length s) c.self.view_is) in (
      subst (AreStored front) (sym c.fill.ensures) (stored_set front old c.self.invariant.0 c.args.index (Filled c.args.word.now) inside),
      subst (λ (ss : List Slot). HasNoWordFrom ss c.max-self-inside.result)
          (sym (ap (live_entries front) c.fill.ensures ∙ live_set front old c.self.invariant.0 c.args.index (Filled c.args.word.now) inside))
          (none_after_put (live_entries front old) c.args.index (Filled c.args.word.now) c.self.inside.end c.max-self-inside.result
          c.self.invariant.1 (omega arith) (omega arith)),
    )
