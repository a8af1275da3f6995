use Rattle.std.proofs.Common.{◌≡◌, ◌∙◌, sym, get_or, arith}
use Rattle.std.proofs.lemmas.List.{get_or_past}
use Rattle.fg_check.proofs.Spelling.{at_none, end_alone, head_alone, known_alone, none_empty, none_more, open_alone, rule_alone}
use Rattle.fg_check.proofs.reading.read_line.Goals as goal

pub returns-in_err-first : goal.returns-in_err-first
returns-in_err-first c =
    at_none _ _ _ c.from_residual.ensures (none_empty c.args.text.now (get_or_past c.args.text.now 0 0 c.in_err-first.ensures.item.3))

pub returns-then-first-eq107 : goal.returns-then-first-eq107
returns-then-first-eq107 c =
    none_more c.read_known.result _ _ _ (known_alone c.args.text.now (sym (c.in_ok-first.ensures.item.3.1 0) ∙ c.if-first-eq107.true)) c.read_known.ensures

pub returns-then-first-eq108 : goal.returns-then-first-eq108
returns-then-first-eq108 c =
    none_more c.read_rule.result _ _ _ (rule_alone c.args.text.now (sym (c.in_ok-first.ensures.item.3.1 0) ∙ c.if-first-eq108.true)) c.read_rule.ensures

pub returns-then-first-eq111 : goal.returns-then-first-eq111
returns-then-first-eq111 c =
    none_more c.read_open.result _ _ _ (open_alone c.args.text.now (sym (c.in_ok-first.ensures.item.3.1 0) ∙ c.if-first-eq111.true)) c.read_open.ensures

pub returns-then-first-eq99 : goal.returns-then-first-eq99
returns-then-first-eq99 c =
    none_more c.read_head.result _ _ _ (head_alone c.args.text.now (sym (c.in_ok-first.ensures.item.3.1 0) ∙ c.if-first-eq99.true)) c.read_head.ensures

pub returns : goal.returns
returns c =
    let first = c.in_ok-first.ensures.item.3.1 0 in
    none_more c.read_end.result _ _ _
    (end_alone c.args.text.now (λ is. c.if-first-eq99.false (first ∙ is)) (λ is. c.if-first-eq107.false (first ∙ is)) (λ is. c.if-first-eq108.false (first ∙ is)) (λ is. c.if-first-eq111.false (first ∙ is)))
    c.read_end.ensures
