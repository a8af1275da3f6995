use Rattle.std.proofs.Common.{ap, sym, ◌∙◌}
use Rattle.fg_buffer.specs.PlayoutBuffer.{BufferState, buffer_shared}
use Rattle.fg_buffer.specs.BufferEntries.{shared_in}
use Rattle.fg_buffer.proofs.BufferViews.{buffer_shared-entry}
use Rattle.fg_buffer.proofs.playout_buffer.PlayoutBuffer.share.Goals as goal

pub returns : goal.returns
returns c =
    let mark = c.self.inside.mark in
    c.share.ensures ∙ ap shared_in c.entry.ensures
    ∙ sym (buffer_shared-entry mark c.self.inside.entries c.args.position)
    ∙ ap (λ (r : BufferState). buffer_shared r c.args.position) c.self.view_is
