use Rattle.std.proofs.Common.{◌+◌, subst, arith}
use Rattle.fg_hold.specs.Inside.{state_of}
use Rattle.fg_hold.specs.Steps.{TakesHeld}
use Rattle.fg_hold.specs.Waiting.{WaitingState}
use Rattle.fg_hold.proofs.Held.{takes_oldest}
use Rattle.fg_hold.proofs.Waiting.take_held.Goals as goal

pub returns-clause-takes : goal.returns-clause-takes
returns-clause-takes c =
    let w : WaitingState = state_of c.self.inside in
    let end = c.saturating_add-self-inside.result in
    subst (λ (s : WaitingState). TakesHeld s (record w { first = w.first + 1; held_end = end })) c.self.view_is
    (takes_oldest w c.at-high.result c.at.result end c.self.invariant (omega arith) c.at-high.ensures c.at.ensures (omega arith)
    c.saturating_add-self-inside.ensures)
