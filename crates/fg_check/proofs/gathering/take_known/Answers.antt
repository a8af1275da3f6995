use Rattle.std.proofs.Common.{◌≡◌, ◌≤◌, ◌<◌, ◌++◌, ◌∷◌, ◌⊎◌, inl, inr, [], ℕ, List, Some, None, ap, refl, length, arith}
use Rattle.fg_proof.specs.Text.{Known, line_limit}
use Rattle.fg_check.proofs.Grammar.{case_of, is_empty, known_more, known_none, not_full, not_nil, refused_at, size, taken_at}
use Rattle.fg_check.proofs.gathering.take_known.Goals as goal
use Rattle.fg_check.proofs.gathering.take_known.Goals.{then-count-gt0-via-then-count-gt0, then-count-gt0-via-else-count-gt0+then-count-gt0-2, then-count-gt0-via-else-count-gt0+else-count-gt0-2+then-is_full}

pub returns-in_default : goal.returns-in_default
returns-in_default c = refused_at c.args.opened.now None (Known (c.args.first, c.args.count)) c.in_default.is c.requires refl

pub returns-then-count-gt0 : goal.returns-then-count-gt0
returns-then-count-gt0 c =
    let case = c.in-Some.case in
    let out : (¬ (case.lines ≡ [])) ⊎ ((¬ (case.holes ≡ [])) ⊎ (line_limit ≤ size case.known case.lines case.holes)) = elim c.then-count-gt0.branch [
      | then-count-gt0-via-then-count-gt0 w ↦ inl (not_nil case.lines c.count.result c.count.ensures w.if-count-gt0.true)
      | then-count-gt0-via-else-count-gt0+then-count-gt0-2 w ↦ inr (inl (not_nil case.holes w.count-else-count-gt0.result w.count-else-count-gt0.ensures w.if-count-gt0-2.true))
      | then-count-gt0-via-else-count-gt0+else-count-gt0-2+then-is_full w ↦ inr (inr (w.if-is_full.ensures.0 refl))
    ] in
    refused_at c.args.opened.now (Some case) (Known (c.args.first, c.args.count)) c.in-Some.is c.requires (known_none case (c.args.first, c.args.count) out)

pub returns : goal.returns
returns c =
    let case = c.in-Some.case in
    let run : ℕ × ℕ = (c.args.first, c.args.count) in
    taken_at c.args.opened.now _ case (case_of case.port case.mark case.count (case.known ++ run ∷ []) case.lines case.holes) (Known run) c.in-Some.is
    (ap (λ (l : List (ℕ × ℕ)). Some (case_of case.port case.mark case.count l case.lines case.holes)) c.in_ok-add.ensures.ok)
    (known_more case run c.requires (is_empty case.lines c.count.result c.count.ensures c.if-count-gt0.false)
    (is_empty case.holes c.count-else-count-gt0.result c.count-else-count-gt0.ensures c.if-count-gt0-2.false) (not_full c.is_full.result _ c.is_full.ensures c.if-is_full.false))
