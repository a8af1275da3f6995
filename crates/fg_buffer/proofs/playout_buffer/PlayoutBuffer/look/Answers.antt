use Rattle.std.proofs.Common.{sym, ap, subst, ◌∙◌}
use Rattle.fg_peel.specs.Look.{IsLook}
use Rattle.fg_peel.specs.Slots.{equation_of}
use Rattle.fg_buffer.specs.PlayoutBuffer.{BufferState, buffer_words, LiesIn}
use Rattle.fg_buffer.specs.BufferEntries.{buffer_of}
use Rattle.fg_buffer.proofs.BufferLooks.{looked_are, looked_media, looked_buffer, looked_words}
use Rattle.fg_buffer.proofs.playout_buffer.PlayoutBuffer.look.Goals as goal

pub look_entries-requires-clause-within : goal.look_entries-requires-clause-within
look_entries-requires-clause-within c = subst (λ (r : BufferState). LiesIn r c.args.line.now) (sym c.self.view_is) c.requires.within

pub invariant_of-self : goal.invariant_of-self
invariant_of-self c =
    let lies = subst (λ (r : BufferState). LiesIn r c.args.line.now) (sym c.self.view_is) c.requires.within in (
      looked_are c.self.inside.mark c.args.line.now c.self.inside.entries c.look_entries.new.entries c.look_entries.result
          c.self.invariant.0 lies c.look_entries.ensures,
      λ known.
          looked_media c.self.inside.mark c.args.line.now c.self.inside.entries c.look_entries.new.entries c.look_entries.result
          c.self.invariant.0 lies c.look_entries.ensures (c.self.invariant.1 known),
    )

pub returns-clause-rest : goal.returns-clause-rest
returns-clause-rest c =
    let lies = subst (λ (r : BufferState). LiesIn r c.args.line.now) (sym c.self.view_is) c.requires.within in
    looked_buffer c.self.inside.mark c.args.line.now c.self.inside.entries c.look_entries.new.entries c.look_entries.result
    c.self.invariant.0 lies c.look_entries.ensures
    ∙ ap (λ (r : BufferState). record r { cached = (buffer_of c.self.inside.mark c.look_entries.new.entries).cached }) c.self.view_is

pub returns-clause-look : goal.returns-clause-look
returns-clause-look c =
    let lies = subst (λ (r : BufferState). LiesIn r c.args.line.now) (sym c.self.view_is) c.requires.within in
    subst
    (λ (r : BufferState). IsLook (buffer_words r) (buffer_words (buffer_of c.self.inside.mark c.look_entries.new.entries))
    (equation_of c.args.line.now) c.look_entries.result) c.self.view_is
    (looked_words c.self.inside.mark c.args.line.now c.self.inside.entries c.look_entries.new.entries c.look_entries.result
    c.self.invariant.0 lies c.look_entries.ensures)
