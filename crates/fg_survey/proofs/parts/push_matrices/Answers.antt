use Rattle.std.proofs.Common.{◌≡◌, ◌++◌, ap, ◌∙◌, arith}
use Rattle.std.specs.List.{flat_map, range_with_len}
use Rattle.fg_survey.specs.Rows.{ports}
use Rattle.fg_survey.specs.Text.{port_matrix}
use Rattle.fg_survey.proofs.Counting.{all_ports}
use Rattle.fg_survey.proofs.MatrixTexts.{flat_next}
use Rattle.fg_survey.proofs.parts.push_matrices.Goals as goal

pub loop-i-preserved : goal.loop-i-preserved
loop-i-preserved c = λ heard lanes ended.
    c.in_ok-push_port_matrix.ensures heard lanes ended ∙ flat_next (port_matrix c.args.json heard) c.loop-i.i c.loop-i.text.items c.args.text.now.items (c.loop-i.invariant heard lanes ended)

pub returns : goal.returns
returns c = λ heard lanes ended.
    let last : c.loop-i.i ≡ ports = omega (arith, all_ports, c.loop-i-test.false, c.loop-i.auto.i-end) in
    c.loop-i.invariant heard lanes ended ∙ ap (λ n. c.args.text.now.items ++ flat_map (port_matrix c.args.json heard) (range_with_len 0 n)) last
