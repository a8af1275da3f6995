use Rattle.std.proofs.Common.{◌≡◌, ℕ, Option, IfSome, IfNone, sym, ap, subst, arith}
use Rattle.fg_peel.specs.Words.{IsGreatest}
use Rattle.fg_hold.specs.HasWaited.{Times, HasWaited}
use Rattle.fg_hold.specs.Inside.{state_of}
use Rattle.fg_hold.specs.Waiting.{WaitingState, Waits}
use Rattle.fg_hold.proofs.Clocks.{clock_goes_on}
use Rattle.fg_hold.proofs.Held.{told_held, told_none}
use Rattle.fg_hold.proofs.Waiting.pass_time.Goals as goal
use Rattle.fg_hold.proofs.Waiting.pass_time.Goals.{After-take_all_held, then-mark-self, else-mark-self}

waits :
    (c : After-take_all_held) (times : Times) → Waits c.args.self.now c.args.mark times
    → Waits c.take_all_held.new.self c.args.mark times
waits c times h =
    let w : WaitingState = state_of c.self.inside in
    c.take_all_held.ensures.takes.waits c.args.mark times
    (clock_goes_on w c.max-self-inside.result c.args.mark times (omega arith)
    (subst (λ (s : WaitingState). Waits s c.args.mark times) (sym c.self.view_is) h))

pub returns-clause-waits : goal.returns-clause-waits
returns-clause-waits c = waits (goal.at.returns-clause-waits c).After-take_all_held

pub returns-clause-some : goal.returns-clause-some
returns-clause-some c times h =
    let s : WaitingState = c.take_all_held.new.self in
    let end : c.self-2.inside.held_end ≡ s.held_end = ap (λ (w : WaitingState). w.held_end) c.self-2.view_is in
    let now = waits (goal.at.returns-clause-some c).After-take_all_held times h in
    elim c.if-mark-self.branch [
      | then-mark-self w ↦
          told_held s c.self-2.inside.held_end c.args.mark c.if-mark-self.result times end w.result-is w.if-mark-self.true now
          (c.take_all_held.ensures.oldest c.args.mark times now)
      | else-mark-self w ↦ subst (λ (r : Option ℕ). IfSome r (IsGreatest (HasWaited s.hold s.clock times))) (sym w.result-is) tt
    ]

pub returns-clause-none : goal.returns-clause-none
returns-clause-none c times h =
    let s : WaitingState = c.take_all_held.new.self in
    let end : c.self-2.inside.held_end ≡ s.held_end = ap (λ (w : WaitingState). w.held_end) c.self-2.view_is in
    let now = waits (goal.at.returns-clause-none c).After-take_all_held times h in
    elim c.if-mark-self.branch [
      | then-mark-self w ↦
          subst (λ (r : Option ℕ). IfNone r ((position : ℕ) → ¬ HasWaited s.hold s.clock times position)) (sym w.result-is) tt
      | else-mark-self w ↦
          told_none s c.self-2.inside.held_end c.args.mark c.if-mark-self.result times end w.result-is w.if-mark-self.false now
          (c.take_all_held.ensures.oldest c.args.mark times now)
    ]
