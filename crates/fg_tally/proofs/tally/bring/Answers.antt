use Rattle.std.proofs.Common.{◌≡◌, ◌↔◌, map, sym, subst, ◌∙◌, IsTrue}
use Rattle.fg_words.specs.declared.Word.{Word}
use Rattle.fg_words.specs.Word.{zero_word}
use Rattle.fg_peel.specs.Equation.{Equation}
use Rattle.fg_core.specs.Codes.{told_from}
use Rattle.fg_core.specs.Core.{attest, offer}
use Rattle.fg_core.specs.Views.{IsWorked, IsChecked}
use Rattle.fg_core.specs.declared.key.Key.{Key}
use Rattle.fg_board.specs.Actors.{TakesTurn}
use Rattle.fg_tally.specs.Folding.{missing_of}
use Rattle.fg_tally.proofs.Summing.{part_after, remainder_is_worked, remainder_is_checked, settles_whole}
use Rattle.fg_tally.proofs.tally.bring.Goals as goal

pub attest-requires-clause-check : goal.attest-requires-clause-check
attest-requires-clause-check g c =
    let zero = c.is_zero-comes_out.result in
    subst (λ (key : Key). (equation : Equation) × IsChecked (map told_from c.args.pass.now.told) key equation zero) c.requires.key
    (remainder_is_checked c.args.pass.now c.args.folding.now c.requires.part c.passes_go_on.ensures.itself
    c.jobs_follow.ensures.checked zero c.in-Nothing.ensures
    (subst (λ (w : Word). IsTrue zero ↔ (w ≡ zero_word)) c.remainder-rest.ensures c.is_zero-comes_out.ensures))

pub returns-in-Nothing-clause-settles : goal.returns-in-Nothing-clause-settles
returns-in-Nothing-clause-settles g c =
    let zero = c.is_zero-comes_out.result in
    settles_whole _ c.args.folding.now (missing_of c.args.folding.now) c.args.pass.now c.attest.new.pass c.in-Nothing.ensures zero
    (subst (λ (w : Word). IsTrue zero ↔ (w ≡ zero_word)) c.remainder-rest.ensures c.is_zero-comes_out.ensures) c.attest.result
    (subst (λ (key : Key). TakesTurn (attest key zero c.attest.result) c.args.pass.now c.attest.new.pass) (sym c.requires.key)
    c.attest.ensures)

pub returns-in-Nothing-clause-part : goal.returns-in-Nothing-clause-part
returns-in-Nothing-clause-part g c =
    part_after (attest c.args.key c.is_zero-comes_out.result c.attest.result) c.args.pass.now c.attest.new.pass c.attest.ensures
    c.args.folding.now c.requires.part

pub offer-requires-clause-word : goal.offer-requires-clause-word
offer-requires-clause-word g c =
    let slot = c.in-One.slot in
    let state = c.args.folding.now in
    let told = map told_from c.args.pass.now.told in
    subst (λ (key : Key). (equation : Equation) × IsWorked told key equation slot c.in_ok-share-in-One.share) c.requires.key
    (subst (λ (w : Word). (equation : Equation) × IsWorked told state.key equation slot w)
    (sym (c.in_ok-share-in-One.ensures ∙ c.remainder-rest.ensures))
    (remainder_is_worked c.args.pass.now state c.requires.part c.passes_go_on.ensures.itself c.jobs_follow.ensures.worked slot
    c.in-One.ensures))

pub returns-in_ok-share-in-One-clause-part : goal.returns-in_ok-share-in-One-clause-part
returns-in_ok-share-in-One-clause-part g c =
    part_after (offer c.args.key c.in-One.slot c.in_ok-share-in-One.share c.offer.result) c.args.pass.now c.offer.new.pass
    c.offer.ensures c.args.folding.now c.requires.part
