use Rattle.std.proofs.Common.{List, refl, ap, ◌∙◌}
use Rattle.std.specs.FinMap.{get}
use Rattle.fg_peel.specs.declared.Slot.{Slot}
use Rattle.fg_buffer.specs.PlayoutBuffer.{BufferState}
use Rattle.fg_buffer.specs.BufferEntries.{received_in, solved_in, buffer_of}
use Rattle.fg_buffer.proofs.BufferViews.{get-media, get-solved, told_ahead, told_behind}
use Rattle.fg_buffer.proofs.playout_buffer.PlayoutBuffer.ahead.Goals as goal

pub returns-else-self-position : goal.returns-else-self-position
returns-else-self-position c =
    let entries : List Slot = c.self.inside.entries in
    let buffer = buffer_of c.self.inside.mark entries in (
      told_behind received_in buffer.media c.self.inside.mark entries c.args.position (get-media c.self.inside.mark entries c.args.position) refl
          c.if-self-position.false ∙ ap (λ (r : BufferState). get r.media c.args.position) c.self.view_is,
      told_behind solved_in buffer.solved c.self.inside.mark entries c.args.position (get-solved c.self.inside.mark entries c.args.position) refl
          c.if-self-position.false ∙ ap (λ (r : BufferState). get r.solved c.args.position) c.self.view_is,
    )

pub returns-then-self-position : goal.returns-then-self-position
returns-then-self-position c =
    let mark = c.self.inside.mark in
    let q = c.args.position in
    let entries : List Slot = c.self.inside.entries in
    let is = c.entry.ensures in (
      told_ahead received_in (buffer_of mark entries).media mark entries q _ (get-media mark entries q) c.if-self-position.true is
          ∙ ap (λ (r : BufferState). get r.media q) c.self.view_is,
      told_ahead solved_in (buffer_of mark entries).solved mark entries q _ (get-solved mark entries q) c.if-self-position.true is
          ∙ ap (λ (r : BufferState). get r.solved q) c.self.view_is,
    )
