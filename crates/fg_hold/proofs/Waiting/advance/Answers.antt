use Rattle.std.proofs.Common.{sym, subst}
use Rattle.fg_hold.specs.Inside.{state_of}
use Rattle.fg_hold.specs.Steps.{AreBelow, AreNotBelow}
use Rattle.fg_hold.specs.Waiting.{WaitingState, Waits}
use Rattle.fg_hold.proofs.Marks.{words_leave}
use Rattle.fg_hold.proofs.Waiting.advance.Goals as goal

pub returns-clause-waits : goal.returns-clause-waits
returns-clause-waits c old_mark times left h on from =
    let w : WaitingState = state_of c.self.inside in
    let number = c.number_from-self-inside.result in
    let was = sym c.self.view_is in
    words_leave w old_mark c.args.mark number times left (subst (λ (s : WaitingState). AreBelow c.args.mark s number) was c.number_from-self-inside.ensures.below)
    (subst (λ (s : WaitingState). AreNotBelow c.args.mark s number) was c.number_from-self-inside.ensures.rest) on from
    (subst (λ (s : WaitingState). Waits s old_mark times) was h)
