use Rattle.std.proofs.Common.{◌≡◌, ℕ, refl, subst, arith}
use Rattle.fg_tally.specs.Counting.{Counts, missing_among}
use Rattle.fg_tally.specs.Folding.{FoldingState, missing_of}
use Rattle.fg_tally.proofs.folding.Folding.missing.Goals as goal

pub loop-j-init : goal.loop-j-init
loop-j-init c = refl

pub returns : goal.returns
returns c =
    let w = c.self.inside in
    let all : c.loop-j.j ≡ w.shape.na = omega (arith, c.loop-j-test.false, c.loop-j.auto.j-end) in
    subst (λ (state : FoldingState). Counts (missing_of state) c.loop-j.missing) c.self.view_is
    (subst (λ (n : ℕ). Counts (missing_among w.folded w.base w.shape.offset w.shape.na n) c.loop-j.missing) all
    c.loop-j.invariant)
