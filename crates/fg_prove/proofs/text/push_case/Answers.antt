use Rattle.std.proofs.Common.{◌++◌, ◌∷◌, [], ◌∙◌}
use Rattle.fg_proof.specs.Text.{spelled}
use Rattle.fg_prove.proofs.Texts.{case_made}
use Rattle.fg_prove.proofs.text.push_case.Goals as goal

pub returns : goal.returns
returns c =
    let case = c.args.case.now in
    let old = c.args.text.now.items in
    let first = c.in_ok-push_three.ensures ∙ (λ i. old ++ (spelled (99 ∷ 97 ∷ 115 ∷ 101 ∷ []) (c.from.ensures i ∷ case.mark ∷ c.from-2.ensures i ∷ []) ++ 10 ∷ [])) in
    c.in_ok-extend_from_slice.ensures.items
    ∙ case_made case old c.push_three.new.text.items c.push_runs.new.text.items c.push_rules.new.text.items c.push_runs-2.new.text.items
    first c.in_ok-push_runs.ensures c.in_ok-push_rules.ensures c.in_ok-push_runs-2.ensures
