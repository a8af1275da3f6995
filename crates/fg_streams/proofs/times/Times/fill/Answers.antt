use Rattle.std.proofs.Common.{◌≡◌, ℕ, ◌∷◌, [], ◌++◌, Option, None, replicate, ap, ◌∙◌, arith}
use Rattle.std.proofs.lemmas.List.{replicate-append-replicate}
use Rattle.fg_streams.proofs.times.Times.fill.Goals as goal

pub loop-preserved : goal.loop-preserved
loop-preserved c =
    let none : Option ℕ = None in
    record {
      filled = c.push.ensures ∙ ap (λ t. t ++ none ∷ []) c.loop.invariant.filled ∙ replicate-append-replicate c.loop.counter 1 none;
      gaps = c.loop.invariant.gaps;
    }

pub returns-clause-filled : goal.returns-clause-filled
returns-clause-filled c =
    let none : Option ℕ = None in
    let all : c.loop.counter ≡ 1024 = omega arith in
    c.loop.invariant.filled ∙ ap (λ n. replicate n none) all
