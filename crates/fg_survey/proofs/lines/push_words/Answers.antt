use Rattle.std.proofs.Common.{◌++◌, codes, ap, ◌∙◌}
use Rattle.std.specs.Fmt.{decimal}
use Rattle.fg_survey.specs.Text.{words_line}
use Rattle.fg_survey.proofs.MatrixTexts.{seven_pieces}
use Rattle.fg_survey.proofs.lines.push_words.Goals as goal

pub returns : goal.returns
unfolding words_line
returns c =
    let t0 = c.args.text.now.items in
    seven_pieces t0 c.push_setting.new.text.items c.push_setting-2.new.text.items c.push_setting-3.new.text.items c.extend_from_slice.new.self.items
    (codes "words flow=") (decimal c.args.words.port) (codes " window=") (decimal c.args.words.window) (codes " depth=") (decimal c.args.words.depth) (codes "\n")
    (c.in_ok-push_setting.ensures ∙ ap (λ n. t0 ++ (codes "words flow=" ++ decimal n)) c.from.ensures) c.in_ok-push_setting-2.ensures c.in_ok-push_setting-3.ensures c.in_ok-extend_from_slice.ensures.items
