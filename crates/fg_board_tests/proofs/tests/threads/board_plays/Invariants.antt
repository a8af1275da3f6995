use Rattle.std.proofs.Common.{◌≡◌}
use Rattle.fg_board_tests.proofs.tests.threads.board_plays.Given as goal

abbrev pub invariant-loop : goal.invariant-loop
invariant-loop g l = (l.admitter.seat.turn ≡ l.fn.admitter.seat.turn) × (l.admitter.playout.window ≡ l.fn.admitter.playout.window)
