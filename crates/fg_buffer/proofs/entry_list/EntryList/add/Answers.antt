use Rattle.fg_buffer.proofs.BufferBounds.{bounded_kept, none_with}
use Rattle.std.proofs.Common.{◌≡◌, ◌<◌, ◌+◌, ℕ, length, get_or, set, List, sym, ap, ◌∙◌, arith}
use Rattle.fg_peel.specs.declared.Slot.{Slot}
use Rattle.fg_peel.specs.declared.Slot.TheVariants.{Empty}
use Rattle.fg_buffer.specs.BufferEntries.{live_entries}
use Rattle.fg_buffer.proofs.BufferStored.{live_set, stored_at}
use Rattle.fg_peel.specs.Slots.{with_word, word_in}
use Rattle.fg_buffer.proofs.entry_list.EntryList.add.Goals as goal

pub returns : goal.returns
returns c =
    let front = c.self.inside.front in
    let old : List Slot = c.self.inside.slots in
    let inside : c.args.index < length (live_entries front old) = omega (arith, c.requires.within, ap (λ (s : List Slot). length s) c.self.view_is) in
    let e : List Slot → ℕ → ℕ → Slot = λ s i j. with_word (get_or s i Empty) (word_in (get_or s j Empty)) in
    let same : e old (front + c.args.index) (front + c.args.other) ≡ e (live_entries front old) c.args.index c.args.other =
    ap (λ (x : Slot). with_word x (word_in (get_or old (front + c.args.other) Empty))) (sym (stored_at front old c.self.invariant.0 c.args.index))
    ∙ ap (λ (x : Slot). with_word (get_or (live_entries front old) c.args.index Empty) (word_in x)) (sym (stored_at front old c.self.invariant.0 c.args.other)) in
    ap (live_entries front) (c.add.ensures ∙ ap (set old (front + c.args.index)) same)
    ∙ live_set front old c.self.invariant.0 c.args.index (e (live_entries front old) c.args.index c.args.other) inside
    ∙ ap (λ (s : List Slot). set s c.args.index (e s c.args.index c.args.other)) c.self.view_is

pub invariant_of-self : goal.invariant_of-self
invariant_of-self c =
    let front = c.self.inside.front in
    let old : List Slot = c.self.inside.slots in
    bounded_kept front old c.add.new.self c.args.self.now c.self.inside.end c.self.invariant c.args.index _ c.requires.within c.self.view_is c.add.ensures
    (none_with (get_or old (front + c.args.index) Empty) (word_in (get_or old (front + c.args.other) Empty)))
