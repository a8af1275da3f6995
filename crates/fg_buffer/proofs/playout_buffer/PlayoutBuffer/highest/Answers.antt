use Rattle.std.proofs.Common.{◌+◌, ◌-◌, ◌≤◌, subst, ap, sym, ◌∙◌, arith}
use Rattle.fg_buffer.specs.PlayoutBuffer.{BufferState, buffer_words, IsHighestWord}
use Rattle.fg_buffer.proofs.BufferChanges.{highest_buffer, no_highest_buffer}
use Rattle.fg_buffer.proofs.playout_buffer.PlayoutBuffer.highest.Goals as goal

pub returns-in-Some-clause-some : goal.returns-in-Some-clause-some
returns-in-Some-clause-some c =
    let last = c.in-Some.last in
    let mark = c.self.inside.mark in
    subst (λ (r : BufferState). IsHighestWord r (mark + (last - 100))) c.self.view_is
    (highest_buffer mark c.self.inside.entries last
    c.in-Some.ensures.some)

pub returns-in-None-clause-none : goal.returns-in-None-clause-none
returns-in-None-clause-none c =
    λ p from.
    let mark = c.self.inside.mark in
    let ahead : mark ≤ p = omega (arith, from, ap (λ (r : BufferState). r.mark) c.self.view_is) in
    ap (λ (r : BufferState). buffer_words r p) (sym c.self.view_is)
    ∙ no_highest_buffer mark c.self.inside.entries
    c.in-None.ensures.none p ahead
