use Rattle.std.proofs.Common.{◌+◌, ap, drop}
use Rattle.fg_io.specs.InputBuffer.{InputState}
use Rattle.fg_io.proofs.RangeLemmas.{range_from}
use Rattle.fg_io.proofs.input_buffer.InputBuffer.step.Goals as goal

pub returns : goal.returns
returns c =
    let inside = c.self.inside in
    rw (range_from inside.buffer.items inside.from inside.to c.args.count)
    (ap (λ (t : InputState). record t { place = t.place + c.args.count; held = drop c.args.count t.held }) c.self.view_is)
