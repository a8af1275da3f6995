use Rattle.std.proofs.Common.{sym, ◌∙◌}
use Rattle.fg_survey.proofs.MatrixTexts.{matrix_pushed, none_pushed}
use Rattle.fg_survey.proofs.parts.push_matrix.Goals as goal

pub returns-then-is_empty : goal.returns-then-is_empty
returns-then-is_empty c = λ columns rows h.
    none_pushed c.args.json c.args.lane.now.port c.args.deepest columns rows c.args.text.now.items (sym (c.is_empty.ensures columns rows h) ∙ c.if-is_empty.true)

pub returns : goal.returns
returns c = λ columns rows h.
    matrix_pushed c.args.json c.args.lane.now.port c.args.deepest c.window.result c.depth.result c.matrix-matrix.result columns rows c.args.text.now.items c.push_matrix_line.new.text.items c.push_words_line.new.text.items
    (c.matrix-matrix.ensures columns rows h) (sym (c.is_empty.ensures columns rows h) ∙ c.if-is_empty.false) c.window.ensures c.depth.ensures c.in_ok-push_matrix_line.ensures c.in_ok-push_words_line.ensures
