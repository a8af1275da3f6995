-- What is held after a read: what was held, wherever it stands now, and behind it what was read.
use Rattle.std.proofs.Common.{◌∙◌, ◌+◌, ◌-◌, sym, ap, arith}
use Rattle.fg_io.specs.InputBuffer.{InputState}
use Rattle.fg_io.proofs.RangeLemmas.{held_more, held_same}
use Rattle.fg_io.proofs.input_buffer.InputBuffer.read_more.Goals as goal

pub returns-in_err-count-clause-takes : goal.returns-in_err-count-clause-takes
returns-in_err-count-clause-takes g c =
    let start = c.make_room-self-inside.result in
    let was = sym (ap (λ (t : InputState). t.held) c.self.view_is) ∙ sym c.make_room-self-inside.ensures.held in
    held_same c.make_room-self-inside.new.buffer.items c.read_between.new.buffer.items c.args.self.now.held start (start + (c.self.inside.to - c.self.inside.from)) _ _
    c.read_between.ensures.before was c.in_err-count.ensures.failed

pub returns-clause-takes : goal.returns-clause-takes
returns-clause-takes g c =
    let start = c.make_room-self-inside.result in
    let was = sym (ap (λ (t : InputState). t.held) c.self.view_is) ∙ sym c.make_room-self-inside.ensures.held in
    held_more c.make_room-self-inside.new.buffer.items c.read_between.new.buffer.items c.args.self.now.held start (start + (c.self.inside.to - c.self.inside.from)) c.in_ok-count.count _ _
    (omega arith) c.read_between.ensures.before was c.in_ok-count.ensures.gives
