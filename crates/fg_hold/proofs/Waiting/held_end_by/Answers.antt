use Rattle.std.proofs.Common.{subst}
use Rattle.fg_hold.specs.Inside.{state_of}
use Rattle.fg_hold.specs.Steps.{WillTake}
use Rattle.fg_hold.specs.Waiting.{WaitingState}
use Rattle.fg_hold.proofs.Held.{takes_none}
use Rattle.fg_hold.proofs.Waiting.held_end_by.Goals as goal

pub returns-then-clock-self : goal.returns-then-clock-self
returns-then-clock-self c =
    subst (λ (s : WaitingState). WillTake s c.args.clock c.self.inside.held_end) c.self.view_is
    (takes_none (state_of c.self.inside) c.args.clock c.if-clock-self.true)
