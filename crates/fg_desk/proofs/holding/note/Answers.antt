use Rattle.std.proofs.Common.{arith}
use Rattle.fg_desk.proofs.Times.{notes_put, notes_nothing}
use Rattle.fg_desk.proofs.holding.note.Goals as goal

pub returns-then-hold-gt0 : goal.returns-then-hold-gt0
returns-then-hold-gt0 c =
    notes_put c.args.waiting.now c.args.position c.put.new.self (omega (arith, c.if-hold-gt0.true, c.hold.ensures)) c.put.ensures.hold
    c.put.ensures.clock c.put.ensures.here c.put.ensures.others c.put.ensures.waits

pub returns-else-hold-gt0 : goal.returns-else-hold-gt0
returns-else-hold-gt0 c =
    notes_nothing c.args.waiting.now c.args.position (omega (arith, c.if-hold-gt0.false, c.hold.ensures))
