use Rattle.std.proofs.Common.{ap, sym, ◌∙◌}
use Rattle.fg_peel.specs.Slots.{word_in}
use Rattle.fg_buffer.specs.PlayoutBuffer.{BufferState, buffer_words}
use Rattle.fg_buffer.proofs.BufferViews.{buffer_words-entry}
use Rattle.fg_buffer.proofs.playout_buffer.PlayoutBuffer.any_word.Goals as goal

pub returns : goal.returns
returns c =
    let mark = c.self.inside.mark in
    c.word.ensures ∙ ap word_in c.entry.ensures
    ∙ sym (buffer_words-entry mark c.self.inside.entries c.args.position)
    ∙ ap (λ (r : BufferState). buffer_words r c.args.position) c.self.view_is
