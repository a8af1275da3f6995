use Rattle.std.proofs.Common.{subst, ap, ◌∙◌, ◌<◌, ◌≤◌, arith}
use Rattle.fg_buffer.specs.PlayoutBuffer.{BufferState, IsBuffer}
use Rattle.fg_buffer.proofs.BufferViews.{is_buffer, buffer_shared-ahead, buffer_words-before}
use Rattle.fg_buffer.proofs.playout_buffer.PlayoutBuffer.word.Goals as goal

pub returns-then-position-self : goal.returns-then-position-self
returns-then-position-self c =
    let buffer = c.args.self.now in
    let is : IsBuffer buffer = subst (λ (r : BufferState). IsBuffer r) c.self.view_is (is_buffer c.self.inside.mark c.self.inside.entries c.self.invariant.0) in
    let before : c.args.position < buffer.mark = omega (arith, ap (λ (r : BufferState). r.mark) c.self.view_is) in
    c.any_word.ensures ∙ buffer_words-before buffer is c.args.position before

pub returns-in-None : goal.returns-in-None
returns-in-None c =
    let buffer = c.args.self.now in
    let is : IsBuffer buffer = subst (λ (r : BufferState). IsBuffer r) c.self.view_is (is_buffer c.self.inside.mark c.self.inside.entries c.self.invariant.0) in
    let from : buffer.mark ≤ c.args.position = omega (arith, ap (λ (r : BufferState). r.mark) c.self.view_is) in
    c.in-None.ensures ∙ buffer_shared-ahead buffer is c.args.position from
