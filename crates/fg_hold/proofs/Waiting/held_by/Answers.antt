use Rattle.std.proofs.Common.{◌≡◌, ◌-◌, ℕ, max, ap, subst, ◌∙◌, arith}
use Rattle.fg_peel.specs.Words.{IsGreatest}
use Rattle.fg_hold.specs.HasWaited.{HasWaited}
use Rattle.fg_hold.specs.Waiting.{WaitingState}
use Rattle.fg_hold.proofs.Held.{will_be_held, none_will_be_held}
use Rattle.fg_hold.proofs.Waiting.held_by.Goals as goal

pub returns-then-mark-end-clause-some : goal.returns-then-mark-end-clause-some
returns-then-mark-end-clause-some c times h =
    let w : WaitingState = c.args.self.now in
    let clock : c.max.result ≡ max w.clock c.args.time =
    c.max.ensures ∙ ap (λ (s : WaitingState). max s.clock c.args.time) c.self.view_is in
    subst (λ (t : ℕ). IsGreatest (HasWaited w.hold t times) (c.held_end_by-end.result - 1)) clock
    (will_be_held w c.max.result c.held_end_by-end.result c.args.mark times (omega (arith, clock)) c.held_end_by-end.ensures h
    c.if-mark-end.true)

pub returns-else-mark-end-clause-none : goal.returns-else-mark-end-clause-none
returns-else-mark-end-clause-none c times h =
    let w : WaitingState = c.args.self.now in
    let clock : c.max.result ≡ max w.clock c.args.time =
    c.max.ensures ∙ ap (λ (s : WaitingState). max s.clock c.args.time) c.self.view_is in
    subst (λ (t : ℕ). (position : ℕ) → ¬ HasWaited w.hold t times position) clock
    (none_will_be_held w c.max.result c.held_end_by-end.result c.args.mark times (omega (arith, clock)) c.held_end_by-end.ensures h
    c.if-mark-end.false)
