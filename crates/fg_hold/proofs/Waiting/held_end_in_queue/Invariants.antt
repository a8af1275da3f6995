use Rattle.fg_hold.specs.Steps.{TakesHeld}
use Rattle.fg_hold.proofs.Waiting.held_end_in_queue.Given as goal

abbrev pub invariant-loop-number : goal.invariant-loop-number
invariant-loop-number l =
    TakesHeld (record l.self { clock = l.clock }) (record l.self { clock = l.clock; first = l.number; held_end = l.end })
