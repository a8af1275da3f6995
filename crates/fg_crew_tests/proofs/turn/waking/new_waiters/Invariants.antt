use Rattle.std.proofs.Common.{◌≡◌, ◌+◌, false}
use Rattle.fg_crew_tests.proofs.turn.waking.new_waiters.Given as goal

abbrev pub invariant-loop : goal.invariant-loop
invariant-loop l = (l.owner.turn ≡ l.initial.owner.turn) × (l.owner.inside ≡ false) × (l.owner.calls ≡ l.initial.owner.calls) × (l.owner.made ≡ l.initial.owner.made + l.counter)
