use Rattle.std.proofs.Common.{◌≢◌, ◌<◌, ◌≤◌, ◌^◌, None, IsSome, sym, subst}
use Rattle.fg_peel.specs.Equation.{Equation}
use Rattle.fg_peel.proofs.Options.{none_has_no_value}
use Rattle.fg_playout.specs.declared.reply.Reply.TheVariants.{Admitted}
use Rattle.fg_playout.specs.Admission.{IsEquationReply}
use Rattle.fg_desk.specs.Contents.{Contents}
use Rattle.fg_desk.specs.Inside.{AreSound, state_of}
use Rattle.fg_buffer.specs.LiveEquations.{LiveState}
use Rattle.fg_desk.specs.Parts.{parts_of}
use Rattle.fg_desk.proofs.DeskAdds.{next_is_fresh, with_line, sound_with_line}
use Rattle.fg_buffer.specs.PlayoutBuffer.{buffer_words}
use Rattle.fg_desk.proofs.WatchedLines.{more_watched}
use Rattle.fg_desk.proofs.desk.Desk.add.Goals as goal

pub insert-place-requires-clause-fresh : goal.insert-place-requires-clause-fresh
insert-place-requires-clause-fresh c = next_is_fresh (parts_of c.self.inside) c.self.invariant.sound

pub invariant_of-self : goal.invariant_of-self
invariant_of-self c =
    let parts = parts_of c.self.inside in
    let equation : Equation =
    record { base = c.args.base; offset = c.args.shape.offset; count = c.args.shape.na; parity = c.args.share } in
    let added = c.insert-place.ensures.added in
    let replies : IsEquationReply (state_of parts) equation Admitted =
    subst (λ (s : Contents). IsEquationReply s.state equation Admitted) (sym c.self.view_is) c.requires.admitted in
    let opened : parts.top ≢ None =
    λ none. none_has_no_value parts.top none (subst (λ (s : Contents). IsSome s.state.top) (sym c.self.view_is) c.requires.started) in
    let from : parts.origin ≤ c.args.base =
    subst (λ (s : Contents). s.state.origin ≤ c.args.base) (sym c.self.view_is) c.requires.origin in
    let calls : c.self.inside.calls < 2 ^ 62 =
    subst (λ (s : Contents). s.state.calls < 2 ^ 62) (sym c.self.view_is) c.requires.calls in
    record {
      sound = subst (λ (l : LiveState). AreSound (with_line parts l)) (sym added.1)
          (sound_with_line parts c.self.invariant.sound c.insert-place.ensures.facts c.insert-place.result equation c.requires.shape c.requires.base
          replies added.0 opened from calls c.peelings_stay.ensures.equations c.requires.room);
      timed = c.self.invariant.timed;
      watched = more_watched c.self.inside.watches c.add.new.self (buffer_words c.self.inside.buffer) c.self.inside.lines
          c.insert-place.new.self c.self.inside.admitted c.insert-place.result equation c.insert-place.ensures.within c.add.ensures
          added.1 c.self.invariant.watched;
    }
