use Rattle.std.proofs.Common.{◌≡◌, ◌%◌, false, refl, ap, sym, ◌∙◌}
use Rattle.fg_words.specs.Word.{transport_word}
use Rattle.fg_encode.specs.Encoding.{sequence_of}
use Rattle.fg_encode.proofs.LineLemmas.{column_step, row_step}
use Rattle.fg_encode.proofs.lines.add_to_lines.Goals as goal

pub returns-then-both_go_on-clause-columns : goal.returns-then-both_go_on-clause-columns
returns-then-both_go_on-clause-columns c words here room before =
    let settings = c.args.settings.now in
    let none : c.begins_column-begins.result ≡ false = (c.both_go_on.ensures.0 c.if-both_go_on.true).1 in
    column_step c.sum_ignores_order.ensures.appends c.xor_is_a_group.ensures.has_zero settings words c.args.slot c.args.columns.now _ false (c.args.slot % c.from.result) c.add_to_both.new.column (sequence_of settings c.args.slot) (transport_word c.args.ts c.args.payload.now)
    (ap (λ x. c.args.slot % x) c.from.ensures) refl (sym here) c.add_to_both.ensures.column c.requires.width
    (λ t. absurd cc) (λ t. sym none ∙ c.begins_column-begins.ensures.1 t) room before

pub returns-then-both_go_on-clause-row : goal.returns-then-both_go_on-clause-row
returns-then-both_go_on-clause-row c sent words here room before =
    let settings = c.args.settings.now in
    let later = (c.both_go_on.ensures.0 c.if-both_go_on.true).2 in
    row_step c.sum_ignores_order.ensures.appends c.xor_is_a_group.ensures.has_zero settings words c.args.slot c.args.row.now false c.add_to_both.new.row (sequence_of settings c.args.slot) (transport_word c.args.ts c.args.payload.now)
    refl (sym here) c.add_to_both.ensures.row (λ t. absurd cc) (λ t. absurd (later t)) room before
