use Rattle.std.proofs.Common.{◌≡◌, ℕ, Option, List, [], ◌∷◌, ◌++◌, length, ap, ◌∙◌, sym, subst, append_assoc, append-nil, arith, length-append}
use Rattle.fg_streams.specs.Steps.{IsClosed}
use Rattle.fg_streams.proofs.times.Times.drain.Goals as goal

pub pass-requires : goal.pass-requires
pass-requires c =
    let f = c.loop-oldest.invariant.few in
    let k = c.loop-oldest.invariant.kept f.0 f.1 in
    let all = length-append k.0 c.loop-oldest.self.recent in
    let is = ap (λ (t : List (Option ℕ)). length t) k.1 in
    (k.0, k.2, omega (arith, all, is, f.2))

pub loop-oldest-preserved : goal.loop-oldest-preserved
loop-oldest-preserved c = record {
  kept = λ times h.
      let k = c.loop-oldest.invariant.kept times h in
      (k.0 ++ c.in-Some.oldest ∷ [], k.1 ∙ ap (λ t. k.0 ++ t) (c.pop.ensures.some c.in-Some.oldest c.in-Some.is) ∙ sym (append_assoc k.0 (c.in-Some.oldest ∷ []) c.pop.new.self), c.in_ok-pass.ensures k.0 k.2);
  few = c.loop-oldest.invariant.few;
}

pub returns-clause-drained : goal.returns-clause-drained
returns-clause-drained c = λ times h.
    let k = c.loop-oldest.invariant.kept times h in
    let all : times ≡ k.0 = k.1 ∙ ap (λ t. k.0 ++ t) (c.pop.ensures.none c.in_default.is) ∙ append-nil k.0 in
    subst (λ (t : List (Option ℕ)). IsClosed c.loop-oldest.self.gaps t) (sym all) k.2
