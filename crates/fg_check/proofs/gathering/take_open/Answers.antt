use Rattle.std.proofs.Common.{◌≡◌, ◌≤◌, ◌<◌, ◌++◌, ◌∷◌, [], ℕ, List, Some, None, ap, refl, arith}
use Rattle.fg_proof.specs.Text.{Open}
use Rattle.fg_check.proofs.Grammar.{case_of, not_full, open_more, open_none, refused_at, taken_at}
use Rattle.fg_check.proofs.gathering.take_open.Goals as goal

pub returns-in_default : goal.returns-in_default
returns-in_default c = refused_at c.args.opened.now None (Open (c.args.first, c.args.count)) c.in_default.is c.requires refl

pub returns-then-is_full : goal.returns-then-is_full
returns-then-is_full c =
    refused_at c.args.opened.now (Some c.in-Some.case) (Open (c.args.first, c.args.count)) c.in-Some.is c.requires
    (open_none c.in-Some.case (c.args.first, c.args.count) (c.if-is_full.ensures.0 refl))

pub returns : goal.returns
returns c =
    let case = c.in-Some.case in
    let run : ℕ × ℕ = (c.args.first, c.args.count) in
    taken_at c.args.opened.now _ case (case_of case.port case.mark case.count case.known case.lines (case.holes ++ run ∷ [])) (Open run) c.in-Some.is
    (ap (λ (l : List (ℕ × ℕ)). Some (case_of case.port case.mark case.count case.known case.lines l)) c.in_ok-add.ensures.ok)
    (open_more case run c.requires (not_full c.is_full.result _ c.is_full.ensures c.if-is_full.false))
