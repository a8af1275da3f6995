use Rattle.std.proofs.Common.{◌≡◌}
use Rattle.fg_turn.specs.Inside.{IsSame}
use Rattle.fg_turn.proofs.steps.await_ticket.Given as goal

abbrev pub invariant-loop : goal.invariant-loop
invariant-loop g l = IsSame l.initial.seat l.seat × (l.seat.me ≡ l.initial.seat.me)
