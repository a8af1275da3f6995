use Rattle.std.proofs.Common.{◌≡◌}
use Rattle.fg_board_tests.proofs.tests.threads.hand_works.Given as goal

abbrev pub invariant-loop : goal.invariant-loop
invariant-loop g l = l.hand.turn ≡ l.board.name
