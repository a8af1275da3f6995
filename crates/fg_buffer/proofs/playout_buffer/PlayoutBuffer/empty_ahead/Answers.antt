use Rattle.std.proofs.Common.{ap, sym, ◌∙◌, arith}
use Rattle.fg_buffer.specs.PlayoutBuffer.{BufferState, buffer_words}
use Rattle.fg_buffer.proofs.BufferSkips.{empty_positions}
use Rattle.fg_buffer.proofs.playout_buffer.PlayoutBuffer.empty_ahead.Goals as goal

pub returns-clause-empty : goal.returns-clause-empty
returns-clause-empty c position from below =
    let mark = ap (λ (r : BufferState). r.mark) c.self.view_is in
    ap (λ (r : BufferState). buffer_words r position) (sym c.self.view_is)
    ∙ empty_positions c.self.inside.mark c.self.inside.entries c.empty_to.result c.empty_to.ensures.empty position
    (omega (arith, from, mark)) (omega (arith, below, mark, c.empty_to.ensures.from))
