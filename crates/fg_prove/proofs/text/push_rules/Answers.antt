use Rattle.std.proofs.Common.{◌++◌, ◌∷◌, [], ◌+◌, ◌<◌, length, arith, ap, sym, ◌∙◌, take, List, ℕ}
use Rattle.fg_proof.specs.Text.{spelled}
use Rattle.fg_prove.proofs.Texts.{lines_more, rule_line, rules_text}
use Rattle.fg_prove.proofs.text.push_rules.Goals as goal

pub loop-i-preserved : goal.loop-i-preserved
loop-i-preserved c =
    let old = c.args.text.now.items in
    let so = c.loop-i.invariant ∙ ap (λ (t : List ℕ). old ++ t) (rules_text (take c.loop-i.i c.args.rules.now)) in
    let below : c.loop-i.i < length c.args.rules.now = omega (arith, c.loop-i-test.true, c.count-i-end.ensures) in
    lines_more rule_line c.args.rules.now c.loop-i.i c.item-base.result old c.loop-i.text.items c.push_three.new.text.items
    below c.item-base.ensures so
    (c.in_ok-push_three.ensures
    ∙ (λ i. c.loop-i.text.items ++ (spelled (108 ∷ 105 ∷ 110 ∷ 101 ∷ []) (c.item-base.result.0 ∷ c.from.ensures i ∷ c.from-in-loop-i.ensures i ∷ []) ++ 10 ∷ [])))
    ∙ ap (λ (t : List ℕ). old ++ t) (sym (rules_text (take (c.loop-i.i + 1) c.args.rules.now)))
