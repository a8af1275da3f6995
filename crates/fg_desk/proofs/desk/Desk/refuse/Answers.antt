use Rattle.std.proofs.Common.{◌<◌, ◌^◌, sym, subst}
use Rattle.fg_buffer.specs.PlayoutBuffer.{BufferState, buffer_words}
use Rattle.fg_desk.specs.Contents.{Contents}
use Rattle.fg_desk.specs.Holding.{times_in, AreTimed}
use Rattle.fg_desk.specs.Inside.{AreSound}
use Rattle.fg_desk.specs.Parts.{parts_of}
use Rattle.fg_desk.proofs.DeskCounts.{counted_parts, counted_sound}
use Rattle.fg_desk.specs.Watched.{EachWatched}
use Rattle.fg_desk.proofs.desk.Desk.refuse.Goals as goal

pub invariant_of-self : goal.invariant_of-self
invariant_of-self c =
    let parts = parts_of c.self.inside in
    record {
      sound = subst (λ (buffer : BufferState). AreSound (record (counted_parts parts) { buffer = buffer; times = times_in c.self.inside.waiting buffer.media }))
          (sym c.keep_spare.ensures)
          (counted_sound parts c.self.invariant.sound
          (subst (λ (s : Contents). s.state.calls < 2 ^ 62) (sym c.self.view_is) c.requires.calls));
      timed = subst (λ (buffer : BufferState). AreTimed c.self.inside.waiting buffer.mark buffer.media) (sym c.keep_spare.ensures)
          c.self.invariant.timed;
      watched = subst (λ (buffer : BufferState). EachWatched c.self.inside.watches (buffer_words buffer) c.self.inside.lines)
          (sym c.keep_spare.ensures) c.self.invariant.watched;
    }
