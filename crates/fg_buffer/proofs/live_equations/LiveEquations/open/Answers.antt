use Rattle.std.proofs.Common.{subst}
use Rattle.fg_buffer.specs.LiveEquations.{LiveState, AreOpen}
use Rattle.fg_buffer.proofs.LiveCalls.{are_open}
use Rattle.fg_buffer.proofs.live_equations.LiveEquations.open.Goals as goal

pub returns : goal.returns
returns c =
    subst (λ (s : LiveState). AreOpen s c.self.inside.open) c.self.view_is
    (are_open c.self.inside.open c.self.inside.settled c.self.inside.places c.self.invariant.sound)
