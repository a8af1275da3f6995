use Rattle.std.proofs.Common.{◌%◌, ap, sym}
use Rattle.fg_words.specs.Word.{transport_word}
use Rattle.fg_encode.proofs.LineLemmas.{column_step}
use Rattle.fg_encode.proofs.lines.add_to_column.Goals as goal

pub returns : goal.returns
returns c words here room before =
    column_step c.sum_ignores_order.ensures.appends c.xor_is_a_group.ensures.has_zero c.args.settings.now words c.args.slot c.args.columns.now _ c.args.begins (c.args.slot % c.from.result) c.add.new.parity c.sequence_at-base.result (transport_word c.args.ts c.args.payload.now)
    (ap (λ x. c.args.slot % x) c.from.ensures) c.sequence_at-base.ensures (sym here) c.add.ensures c.requires.width c.requires.begins.0 c.requires.begins.1 room before
