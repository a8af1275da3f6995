use Rattle.fg_hold.specs.Steps.{TakesHeld, queue_len}
use Rattle.fg_hold.proofs.Waiting.take_while_held.Given as goal

abbrev pub invariant-loop : goal.invariant-loop
invariant-loop l = TakesHeld l.initial.self l.self

abbrev pub decreases-loop : goal.decreases-loop
decreases-loop l = queue_len l.self
