use Rattle.std.proofs.Common.{◌++◌, ◌∷◌, [], ◌<◌, ℕ, length, arith}
use Rattle.fg_proof.specs.Text.{spelled}
use Rattle.fg_prove.proofs.Texts.{lines_more}
use Rattle.fg_prove.proofs.text.push_runs.Goals as goal

pub loop-i-preserved : goal.loop-i-preserved
loop-i-preserved c =
    let below : c.loop-i.i < length c.args.runs.now = omega (arith, c.loop-i-test.true, c.count-i-end.ensures) in
    lines_more (λ (run : ℕ × ℕ). spelled c.args.word.now (run.0 ∷ run.1 ∷ []) ++ 10 ∷ []) c.args.runs.now c.loop-i.i c.item-first.result
    c.args.text.now.items c.loop-i.text.items c.push_two.new.text.items below c.item-first.ensures c.loop-i.invariant c.in_ok-push_two.ensures
