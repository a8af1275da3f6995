use Rattle.std.proofs.Common.{◌≡◌, ◌+◌, false}
use Rattle.fg_crew_tests.proofs.turn.pair.seat_turns.Given as goal

abbrev pub invariant-loop : goal.invariant-loop
invariant-loop g l = (l.seat.turn ≡ l.turn.name) × (l.seat.inside ≡ false) × (l.seat.turns ≡ l.initial.seat.turns + l.counter)
