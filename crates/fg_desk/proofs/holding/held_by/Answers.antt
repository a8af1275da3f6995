use Rattle.std.proofs.Common.{arith}
use Rattle.fg_desk.proofs.Times.{foretells, foretells_nothing}
use Rattle.fg_desk.proofs.holding.held_by.Goals as goal

pub returns-then-hold-gt0 : goal.returns-then-hold-gt0
returns-then-hold-gt0 c =
    foretells c.args.waiting.now c.args.time c.args.mark c.held_by.result (omega (arith, c.if-hold-gt0.true, c.hold.ensures))
    c.held_by.ensures.some c.held_by.ensures.none

pub returns-else-hold-gt0 : goal.returns-else-hold-gt0
returns-else-hold-gt0 c =
    foretells_nothing c.args.waiting.now c.args.time c.args.mark (omega (arith, c.if-hold-gt0.false, c.hold.ensures))
