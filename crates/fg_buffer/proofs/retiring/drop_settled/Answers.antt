use Rattle.std.proofs.Common.{◌≤◌, arith}
use Rattle.fg_peel.specs.declared.Line.{Line}
use Rattle.fg_peel.specs.Slots.{equation_of}
use Rattle.fg_peel.specs.Live.{Survives}
use Rattle.fg_buffer.proofs.LiveBounds.{nothing_drops, all_survive}
use Rattle.fg_buffer.proofs.retiring.drop_settled.Goals as goal

pub returns-then-mark-earliest : goal.returns-then-mark-earliest
returns-then-mark-earliest c =
    let buffer = c.args.buffer.now in
    let before : buffer.mark ≤ c.args.earliest = omega (arith, c.mark.ensures.value, c.if-mark-earliest.true) in
    nothing_drops (λ (line : Line). Survives buffer.mark buffer.kept (equation_of line)) c.args.lines.now c.args.places.now
    (all_survive buffer.mark c.args.earliest buffer.kept c.args.lines.now before c.requires.based c.requires.earliest)
