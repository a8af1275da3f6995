use Rattle.std.proofs.Common.{◌≡◌, ◌+◌, ◌≤◌, ◌^◌, ℕ, length, ap, subst, arith}
use Rattle.fg_buffer.specs.PlayoutBuffer.{BufferState, Advances}
use Rattle.fg_buffer.specs.BufferEntries.{buffer_of, AreEntries}
use Rattle.fg_buffer.proofs.BufferChanges.{shifted_are, shifted_buffer, shifted_media}
use Rattle.fg_buffer.proofs.playout_buffer.PlayoutBuffer.advance.Goals as goal
use Rattle.fg_buffer.proofs.playout_buffer.PlayoutBuffer.advance.Goals.{After-self}

limit : (c : After-self) → c.self.inside.mark + c.args.count + length c.self.inside.entries ≤ 2 ^ 62
limit c =
    omega (arith, ap (λ (r : BufferState). r.mark) c.self.view_is, ap (λ (r : BufferState). r.reach) c.self.view_is, c.requires.limit)

pub advance-requires-clause-within : goal.advance-requires-clause-within
advance-requires-clause-within c = omega (arith, ap (λ (r : BufferState). r.reach) c.self.view_is, c.requires.near)

pub invariant_of-self : goal.invariant_of-self
invariant_of-self c =
    let s = (goal.at.invariant_of-self c).After-self in
    let mark = c.self.inside.mark in
    let at : mark + c.args.count ≡ mark + c.from.result = omega (arith, c.from.ensures) in (
      subst (λ (m : ℕ). AreEntries m c.advance.new.self) at
          (shifted_are mark c.args.count c.self.inside.entries c.advance.new.self c.self.invariant.0 c.advance.ensures.count c.advance.ensures.moved
          (limit s)),
      λ known.
          shifted_media mark c.args.count c.self.inside.entries c.advance.new.self c.self.invariant.0 c.advance.ensures.count
          c.advance.ensures.moved (limit s) (c.self.invariant.1 known),
    )

pub returns : goal.returns
returns c =
    let s = (goal.at.returns c).After-self in
    let mark = c.self.inside.mark in
    let count = c.args.count in
    let at : mark + count ≡ mark + c.from.result = omega (arith, c.from.ensures) in
    let P : BufferState → Type 0 = λ r. Advances count r (buffer_of (mark + count) c.advance.new.self) in
    let Q : ℕ → Type 0 = λ m. Advances count c.args.self.now (buffer_of m c.advance.new.self) in
    subst Q at (subst P c.self.view_is
    (shifted_buffer mark count c.self.inside.entries c.advance.new.self c.self.invariant.0 c.advance.ensures.count c.advance.ensures.moved
    (limit s)))
