use Rattle.std.proofs.Common.{subst}
use Rattle.fg_buffer.specs.LiveEquations.{LiveState, AreSettled}
use Rattle.fg_buffer.proofs.LiveCalls.{are_settled}
use Rattle.fg_buffer.proofs.live_equations.LiveEquations.settled.Goals as goal

pub returns : goal.returns
returns c =
    subst (λ (s : LiveState). AreSettled s c.self.inside.settled) c.self.view_is
    (are_settled c.self.inside.open c.self.inside.settled c.self.inside.places c.self.invariant.sound)
