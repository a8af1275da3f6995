use Rattle.std.proofs.Common.{Some, sym, subst}
use Rattle.fg_words.specs.declared.Word.{Word}
use Rattle.fg_core.specs.Core.{look}
use Rattle.fg_core.specs.declared.fate.Look.{Look}
use Rattle.fg_core.specs.declared.fate.Look.TheVariants as looked
use Rattle.fg_board.specs.Actors.{TakesTurn}
use Rattle.fg_tally.specs.Tally.{IsPartOfSum}
use Rattle.fg_tally.proofs.Summing.{part_after, part_after_look}
use Rattle.fg_tally.proofs.tally.fold_known.Goals as goal

pub returns-in-Lent-clause-part : goal.returns-in-Lent-clause-part
returns-in-Lent-clause-part g c =
    subst (IsPartOfSum c.see.new.pass) (sym c.fold_word.ensures.folds)
    (part_after_look c.codes_are_read_back.ensures.told c.args.key c.args.slot c.word.result.now c.args.pass.now c.see.new.pass
    (subst (λ (word : Word). TakesTurn (look c.args.key (Some c.args.slot) (looked.Known word)) c.args.pass.now c.see.new.pass)
    (sym c.word.ensures.word) c.in-Lent.ensures)
    c.args.folding.now c.requires.key c.requires.slot c.fold_word.ensures.room c.requires.part)

pub returns-in-Told-Known-clause-part : goal.returns-in-Told-Known-clause-part
returns-in-Told-Known-clause-part g c =
    subst (IsPartOfSum c.see.new.pass) (sym c.fold_word-in-Told-Known.ensures.folds)
    (part_after_look c.codes_are_read_back.ensures.told c.args.key c.args.slot c.in-Told-Known.word c.args.pass.now
    c.see.new.pass
    (subst (λ (looked : Look). TakesTurn (look c.args.key (Some c.args.slot) looked) c.args.pass.now c.see.new.pass)
    c.in-Told-Known.field-0-is c.in-Told-Known.ensures)
    c.args.folding.now c.requires.key c.requires.slot c.fold_word-in-Told-Known.ensures.room c.requires.part)

pub returns-in-Told-Unknown-clause-part : goal.returns-in-Told-Unknown-clause-part
returns-in-Told-Unknown-clause-part g c =
    part_after (look c.args.key (Some c.args.slot) c.in-Told-Unknown.field-0) c.args.pass.now c.see.new.pass
    c.in-Told-Unknown.ensures c.args.folding.now c.requires.part

pub returns-in-Told-Gone-clause-part : goal.returns-in-Told-Gone-clause-part
returns-in-Told-Gone-clause-part g c =
    part_after (look c.args.key (Some c.args.slot) c.in-Told-Gone.field-0) c.args.pass.now c.see.new.pass
    c.in-Told-Gone.ensures c.args.folding.now c.requires.part
