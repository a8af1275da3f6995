use Rattle.std.proofs.Common.{◌≡◌, ℕ, ◌+◌, ◌-◌, sym, ap, subst, ◌∙◌, arith}
use Rattle.fg_hold.specs.Inside.{state_of}
use Rattle.fg_hold.specs.Steps.{AreNotBelow}
use Rattle.fg_hold.specs.Waiting.{WaitingState}
use Rattle.fg_hold.proofs.Marks.{most_below}
use Rattle.fg_hold.proofs.Waiting.number_from.Goals as goal

pub loop-below-init : goal.loop-below-init
loop-below-init c =
    let w : WaitingState = state_of c.self.inside in
    let same : c.self.inside.first ≡ c.args.self.now.first = ap (λ (s : WaitingState). s.first) c.self.view_is in (
      (omega arith, λ more. absurd (omega arith)),
      subst (λ (s : WaitingState). AreNotBelow c.args.mark s (w.first + c.min.result)) c.self.view_is
          (most_below w c.args.mark c.saturating_sub-most.result (w.first + c.min.result)
          (c.saturating_sub-most.ensures ∙ ap (λ (n : ℕ). c.args.mark - n) c.at.ensures) c.self.invariant.order
          (ap (λ (n : ℕ). w.first + n) c.min.ensures)),
      omega arith,
    )

pub returns-clause-rest : goal.returns-clause-rest
returns-clause-rest c =
    let not_past = c.loop-below.invariant.2 in
    let same : c.loop-below.below ≡ c.loop-below.rest = omega arith in
    subst (λ (number : ℕ). AreNotBelow c.args.mark c.args.self.now number) (sym same) c.loop-below.invariant.1
