use Rattle.std.proofs.Common.{ℕ, drop, set, ap, ◌∙◌}
use Rattle.std.proofs.lemmas.List.{drop-set-add}
use Rattle.fg_peel.specs.declared.Slot.TheVariants.{Filled}
use Rattle.fg_buffer.proofs.entry_list.PlacedEntryRow.fill.Goals as goal

pub returns-clause-filled : goal.returns-clause-filled
returns-clause-filled c =
    ap (drop c.args.self.now.below)
    (c.fill.ensures ∙ ap (λ (k : ℕ). set c.args.self.now.entries.now k (Filled c.args.word.now)) c.after-place.ensures)
    ∙ drop-set-add c.args.self.now.below c.args.self.now.entries.now c.args.index (Filled c.args.word.now)
