use Rattle.std.proofs.Common.{◌≡◌, ◌+◌, ◌-◌, get_or, IsSome, None, sym, ap, ◌∙◌, subst, arith}
use Rattle.fg_peel.specs.declared.Slot.{Slot}
use Rattle.fg_peel.specs.declared.Slot.TheVariants.{Empty}
use Rattle.fg_peel.specs.Slots.{word_in}
use Rattle.fg_peel.proofs.Options.{none_of_copied, some_of_copied}
use Rattle.fg_buffer.specs.BufferEntries.{HasNoWordFrom}
use Rattle.fg_buffer.proofs.BufferLoops.{no_word_at, last_word_at}
use Rattle.fg_buffer.proofs.entry_list.EntryList.last_word.Goals as goal

pub loop-i-preserved : goal.loop-i-preserved
loop-i-preserved c =
    let xs = c.args.self.now in
    let i = c.loop-i.i in
    let here : word_in (get_or xs (i - 1) Empty) ≡ None =
    ap word_in (sym c.at.ensures) ∙ none_of_copied _ c.word.result c.word.ensures (sym c.is_some.ensures ∙ c.if-is_some.false) in
    let next : i ≡ i - 1 + 1 = omega arith in
    let later : HasNoWordFrom xs (i - 1 + 1) = subst (λ n. HasNoWordFrom xs n) next c.loop-i.invariant in
    no_word_at xs (i - 1) here later

pub returns-then-is_some-clause-some : goal.returns-then-is_some-clause-some
returns-then-is_some-clause-some c =
    let xs = c.args.self.now in
    let i = c.loop-i.i in
    let some = some_of_copied _ c.word.result c.word.ensures (sym c.is_some.ensures ∙ c.if-is_some.true) in
    last_word_at xs i (omega arith) (omega arith)
    (subst (λ (e : Slot). IsSome (word_in e)) c.at.ensures some) c.loop-i.invariant
