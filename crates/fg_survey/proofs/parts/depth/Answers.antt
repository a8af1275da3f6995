use Rattle.std.proofs.Common.{◌≡◌, ◌+◌, min, ap, ◌∙◌, arith}
use Rattle.fg_survey.proofs.parts.depth.Goals as goal

pub returns : goal.returns
returns c =
    let m = c.args.matrix in
    let is : c.min.result ≡ min 1000 (c.window.result + m.lag + c.args.deepest + 1) = omega (arith, c.min.ensures, c.saturating_add.ensures, c.saturating_add-2.ensures, c.saturating_add-3.ensures) in
    is ∙ ap (λ n. min 1000 (n + m.lag + c.args.deepest + 1)) c.window.ensures
