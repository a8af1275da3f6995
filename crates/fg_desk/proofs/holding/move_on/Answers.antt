use Rattle.std.proofs.Common.{arith}
use Rattle.fg_desk.proofs.Times.{moves_on, moves_nothing}
use Rattle.fg_desk.proofs.holding.move_on.Goals as goal

pub returns-then-hold-gt0 : goal.returns-then-hold-gt0
returns-then-hold-gt0 c =
    moves_on c.args.waiting.now c.args.mark c.advance.new.self c.advance.ensures.hold c.advance.ensures.clock c.advance.ensures.since
    c.advance.ensures.waits

pub returns-else-hold-gt0 : goal.returns-else-hold-gt0
returns-else-hold-gt0 c =
    moves_nothing c.args.waiting.now c.args.mark (omega (arith, c.if-hold-gt0.false, c.hold.ensures))
