use Rattle.std.proofs.Common.{◌-◌, ◌∙◌, ap, take, drop}
use Rattle.fg_trace.specs.Reader.{ReaderState}
use Rattle.fg_trace.proofs.Viewing.{payload_is}
use Rattle.fg_trace.proofs.reader.Reader.payload.Goals as goal

pub returns : goal.returns
returns c =
    let m = c.min.result in
    ap (λ t. take (c.self.inside.answered - m) (drop m t)) c.held.ensures.value
    ∙ payload_is c.self.inside.input.held c.self.inside.answered m c.min.ensures
    ∙ ap (λ (t : ReaderState). t.payload) c.self.view_is
