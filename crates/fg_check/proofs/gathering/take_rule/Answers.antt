use Rattle.std.proofs.Common.{◌≡◌, ◌≤◌, ◌<◌, ◌++◌, ◌∷◌, ◌⊎◌, inl, inr, [], ℕ, List, Some, None, ap, refl, length, arith}
use Rattle.fg_shape.specs.declared.Shape.{Shape}
use Rattle.fg_proof.specs.Text.{Rule, line_limit}
use Rattle.fg_check.proofs.Grammar.{case_of, is_empty, not_full, not_nil, refused_at, rule_more, rule_none, size, taken_at}
use Rattle.fg_check.proofs.gathering.take_rule.Goals as goal
use Rattle.fg_check.proofs.gathering.take_rule.Goals.{then-count-gt0-via-then-count-gt0, then-count-gt0-via-else-count-gt0+then-is_full}

pub returns-in_default : goal.returns-in_default
returns-in_default c = refused_at c.args.opened.now None (Rule (c.args.base, c.args.shape)) c.in_default.is c.requires refl

pub returns-then-count-gt0 : goal.returns-then-count-gt0
returns-then-count-gt0 c =
    let case = c.in-Some.case in
    let out : (¬ (case.holes ≡ [])) ⊎ (line_limit ≤ size case.known case.lines case.holes) = elim c.then-count-gt0.branch [
      | then-count-gt0-via-then-count-gt0 w ↦ inl (not_nil case.holes c.count.result c.count.ensures w.if-count-gt0.true)
      | then-count-gt0-via-else-count-gt0+then-is_full w ↦ inr (w.if-is_full.ensures.0 refl)
    ] in
    refused_at c.args.opened.now (Some case) (Rule (c.args.base, c.args.shape)) c.in-Some.is c.requires (rule_none case (c.args.base, c.args.shape) out)

pub returns : goal.returns
returns c =
    let case = c.in-Some.case in
    let rule : ℕ × Shape = (c.args.base, c.args.shape) in
    taken_at c.args.opened.now _ case (case_of case.port case.mark case.count case.known (case.lines ++ rule ∷ []) case.holes) (Rule rule) c.in-Some.is
    (ap (λ (l : List (ℕ × Shape)). Some (case_of case.port case.mark case.count case.known l case.holes)) c.in_ok-add.ensures.ok)
    (rule_more case rule c.requires (is_empty case.holes c.count.result c.count.ensures c.if-count-gt0.false) (not_full c.is_full.result _ c.is_full.ensures c.if-is_full.false))
