use Rattle.std.proofs.Common.{◌≡◌, ◌+◌, false, length}
use Rattle.fg_crew_tests.proofs.turn.pair.owner_turns.Given as goal

abbrev pub invariant-loop : goal.invariant-loop
invariant-loop g l = (l.owner.turn ≡ l.turn.name) × (l.owner.inside ≡ false) × (l.owner.made ≡ l.initial.owner.made) × (length l.owner.calls ≡ length l.initial.owner.calls + l.counter)
