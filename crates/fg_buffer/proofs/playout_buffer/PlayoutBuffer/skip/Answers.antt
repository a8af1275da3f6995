use Rattle.std.proofs.Common.{◌+◌, ◌≤◌, ◌^◌, length, ap, subst, ◌∙◌, arith}
use Rattle.fg_buffer.specs.PlayoutBuffer.{BufferState, buffer_words, Advances}
use Rattle.fg_buffer.specs.BufferEntries.{buffer_of}
use Rattle.fg_buffer.proofs.BufferChanges.{shifted_are, shifted_buffer, shifted_media}
use Rattle.fg_buffer.proofs.BufferSkips.{empty_entries, moved_past}
use Rattle.fg_buffer.proofs.playout_buffer.PlayoutBuffer.skip.Goals as goal

pub skip-requires-clause-empty : goal.skip-requires-clause-empty
skip-requires-clause-empty c =
    empty_entries c.self.inside.mark c.self.inside.entries c.args.count c.min-passed.result (omega (arith, c.min-passed.ensures))
    (λ p from below.
    let mark = ap (λ (r : BufferState). r.mark) c.self.view_is in
    ap (λ (r : BufferState). buffer_words r p) c.self.view_is
    ∙ c.requires.empty p (omega (arith, from, mark)) (omega (arith, below, mark)))

pub invariant_of-self : goal.invariant_of-self
invariant_of-self c =
    let mark = c.self.inside.mark in
    let count = c.args.count in
    let moved = moved_past count c.min-passed.result c.self.inside.entries c.skip.new.self
    (omega (arith, c.min-passed.ensures, c.count.ensures.count)) c.skip.ensures.moved in
    let limit : mark + count + length c.self.inside.entries ≤ 2 ^ 62 =
    omega (arith, ap (λ (r : BufferState). r.mark) c.self.view_is, ap (λ (r : BufferState). r.reach) c.self.view_is, c.requires.limit) in (
      shifted_are mark count c.self.inside.entries c.skip.new.self c.self.invariant.0 c.skip.ensures.count moved limit,
      λ known.
          shifted_media mark count c.self.inside.entries c.skip.new.self c.self.invariant.0 c.skip.ensures.count moved limit
          (c.self.invariant.1 known),
    )

pub returns : goal.returns
returns c =
    let mark = c.self.inside.mark in
    let count = c.args.count in
    let moved = moved_past count c.min-passed.result c.self.inside.entries c.skip.new.self
    (omega (arith, c.min-passed.ensures, c.count.ensures.count)) c.skip.ensures.moved in
    let limit : mark + count + length c.self.inside.entries ≤ 2 ^ 62 =
    omega (arith, ap (λ (r : BufferState). r.mark) c.self.view_is, ap (λ (r : BufferState). r.reach) c.self.view_is, c.requires.limit) in
    let P : BufferState → Type 0 = λ r. Advances count r (buffer_of (mark + count) c.skip.new.self) in
    subst P c.self.view_is
    (shifted_buffer mark count c.self.inside.entries c.skip.new.self c.self.invariant.0 c.skip.ensures.count moved limit)
