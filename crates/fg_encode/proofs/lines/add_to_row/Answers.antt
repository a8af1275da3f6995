use Rattle.std.proofs.Common.{◌%◌, ap, sym, ◌∙◌}
use Rattle.std.proofs.lemmas.Bool.{eqb-true, eq-eqb}
use Rattle.fg_words.specs.Word.{transport_word}
use Rattle.fg_encode.proofs.LineLemmas.{row_step}
use Rattle.fg_encode.proofs.lines.add_to_row.Goals as goal

pub returns : goal.returns
returns c sent words here room before =
    let width = ap (λ x. c.args.slot % x) c.from.ensures in
    row_step c.sum_ignores_order.ensures.appends c.xor_is_a_group.ensures.has_zero c.args.settings.now words c.args.slot c.args.row.now _ c.add.new.parity c.sequence_at.result (transport_word c.args.ts c.args.payload.now)
    c.sequence_at.ensures (sym here) c.add.ensures (λ t. sym width ∙ eqb-true _ _ t) (λ t. eq-eqb _ _ (width ∙ t)) room before
