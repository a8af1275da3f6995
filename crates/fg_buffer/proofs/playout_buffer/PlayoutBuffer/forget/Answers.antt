use Rattle.std.proofs.Common.{◌∙◌, ap}
use Rattle.fg_buffer.specs.PlayoutBuffer.{BufferState}
use Rattle.fg_buffer.specs.BufferEntries.{left_of, forgets}
use Rattle.fg_buffer.proofs.BufferChanges.{changed_are, forgotten_buffer, forgotten_media}
use Rattle.fg_buffer.proofs.playout_buffer.PlayoutBuffer.forget.Goals as goal

pub invariant_of-self : goal.invariant_of-self
invariant_of-self c = (
  changed_are (left_of c.args.solved) c.self.inside.mark c.self.inside.entries c.forget.new.self c.self.invariant.0 c.forget.ensures.count
      c.forget.ensures.forgets,
  λ known.
      forgotten_media c.args.solved c.self.inside.solved_media c.self.inside.entries c.forget.new.self c.forget.ensures.forgets
      c.self.invariant.1 known,
)

pub returns : goal.returns
returns c =
    forgotten_buffer c.args.solved c.self.inside.mark c.self.inside.entries c.forget.new.self c.self.invariant.0 c.forget.ensures.count
    c.forget.ensures.forgets
    ∙ ap (λ (r : BufferState). forgets c.args.solved r) c.self.view_is
