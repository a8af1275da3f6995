use Rattle.std.proofs.Common.{◌≡◌, ◌+◌, ℕ, List, drop, get_or, set, sym, ap, ◌∙◌}
use Rattle.std.proofs.lemmas.List.{drop-set-add, get_or-drop}
use Rattle.fg_peel.specs.declared.Slot.{Slot}
use Rattle.fg_peel.specs.declared.Slot.TheVariants.{Empty}
use Rattle.fg_peel.specs.Slots.{with_word, word_in}
use Rattle.fg_buffer.proofs.entry_list.PlacedEntryRow.add.Goals as goal

pub returns-clause-added : goal.returns-clause-added
returns-clause-added c =
    let below = c.args.self.now.below in
    let old : List Slot = c.args.self.now.entries.now in
    let e : List Slot → ℕ → ℕ → Slot = λ s i j. with_word (get_or s i Empty) (word_in (get_or s j Empty)) in
    let same : e old (below + c.args.index) (below + c.args.other) ≡ e (drop below old) c.args.index c.args.other =
    ap (λ (x : Slot). with_word x (word_in (get_or old (below + c.args.other) Empty))) (sym (get_or-drop below old c.args.index Empty))
    ∙ ap (λ (x : Slot). with_word (get_or (drop below old) c.args.index Empty) (word_in x)) (sym (get_or-drop below old c.args.other Empty)) in
    ap (drop below)
    (c.add.ensures ∙ ap (λ (k : ℕ). set old k (e old k c.after-other.result)) c.after-place.ensures
    ∙ ap (λ (k : ℕ). set old (below + c.args.index) (e old (below + c.args.index) k)) c.after-other.ensures
    ∙ ap (set old (below + c.args.index)) same)
    ∙ drop-set-add below old c.args.index (e (drop below old) c.args.index c.args.other)
