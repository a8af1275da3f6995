use Rattle.std.proofs.Common.{◌≡◌, ◌+◌, ◌<◌, ◌^◌, ℕ, Some, None, refl, sym, ap, subst, ◌∙◌, arith}
use Rattle.std.specs.FinMap.{get}
use Rattle.fg_playout.specs.State.{current}
use Rattle.fg_playout.specs.Admission.{another, sender_of, begun, with_media, IsFresh}
use Rattle.fg_playout.specs.Play.{HasMore}
use Rattle.fg_desk.specs.Contents.{Contents, GivesWay}
use Rattle.fg_desk.specs.Holding.{times_in, AreTimed, Notes}
use Rattle.fg_desk.specs.Inside.{Parts, AreSound, state_of, contents_of}
use Rattle.fg_desk.specs.Parts.{parts_of, top_of}
use Rattle.fg_desk.proofs.DeskTimes.{SameReceived, received_times, received_timed}
use Rattle.fg_desk.proofs.DeskBegins.{run_parts, received_at_mark, nothing_more, holds_in_run, sound_in_run, gives_way_in_run}
use Rattle.fg_desk.proofs.WatchedLines.{none_watched}
use Rattle.fg_buffer.specs.PlayoutBuffer.{buffer_words}
use Rattle.fg_desk.proofs.desk.Desk.begin_run.Goals as goal
use Rattle.fg_desk.proofs.desk.Desk.begin_run.Goals.{After-note}

module _ (c : After-note) where
  abbrev parts : Parts
  parts = parts_of c.self.inside

  is_another : sender_of (state_of parts) c.args.ssrc ≡ another
  is_another = subst (λ (s : Contents). sender_of s.state c.args.ssrc ≡ another) (sym c.self.view_is) c.requires.another

  none : ¬ HasMore (state_of parts)
  none = nothing_more (state_of parts) c.args.ssrc c.self.invariant.sound.facts is_another
      (subst (λ (s : Contents). IsFresh s.state c.args.ssrc → ¬ HasMore s.state) (sym c.self.view_is) c.requires.flushed)

  sound : AreSound (run_parts parts c.args.seq c.args.ssrc c.args.share)
  sound = sound_in_run parts c.self.invariant.sound none c.args.seq c.args.ssrc c.args.share c.peelings_stay.ensures.words
      (subst (λ (s : Contents). s.state.mark < 2 ^ 61) (sym c.self.view_is) c.requires.room.mark)
      (subst (λ (s : Contents). s.state.calls < 2 ^ 62) (sym c.self.view_is) c.requires.room.calls)
      (holds_in_run (state_of parts) c.args.ssrc c.self.invariant.sound.facts is_another c.args.seq c.args.share c.requires.media)

  gives_way :
      GivesWay c.args.self.now c.args.self.now.state.mark c.args.share
      (contents_of (run_parts parts c.args.seq c.args.ssrc c.args.share))
  gives_way =
      subst (λ (s : Contents). GivesWay s s.state.mark c.args.share
      (contents_of (run_parts parts c.args.seq c.args.ssrc c.args.share)))
      c.self.view_is (gives_way_in_run parts c.self.invariant.sound none c.args.seq c.args.ssrc c.args.share)

  -- Nothing is left ahead, so no word was received at the mark.
  unreceived : get c.self.inside.buffer.media c.self.inside.buffer.mark ≡ None
  unreceived = received_at_mark parts c.self.invariant.sound none

  notes : Notes c.self.inside.waiting c.self.inside.buffer.mark c.note.new.waiting
  notes = subst (λ (m : ℕ). Notes c.self.inside.waiting m c.note.new.waiting) c.mark-mark.ensures.value c.note.ensures

  same : SameReceived c.self.inside.buffer c.self.inside.buffer
  same = record { media = refl; mark = refl }

  timed : AreTimed c.note.new.waiting c.begin.new.buffer.mark c.begin.new.buffer.media
  timed = received_timed c.self.inside c.self.invariant.timed c.self.inside.buffer.mark c.args.share (omega arith) (omega arith) unreceived
      c.note.new.waiting notes c.self.inside.buffer c.begin.new.buffer same c.begin.ensures.buffer

  after_is :
      record parts {
        playout = record { window = c.self.inside.window; depth = c.self.inside.depth; hold = c.note.new.waiting.hold };
        clock = c.note.new.waiting.clock;
        times = times_in c.note.new.waiting c.begin.new.buffer.media;
        top = Some (top_of (record { position = c.mark-mark.result; seq = c.args.seq; ssrc = c.args.ssrc }));
        previous = c.current-previous.result;
        origin = c.mark-mark.result;
        runs = c.self.inside.runs + 1;
        buffer = c.begin.new.buffer;
        lines = c.begin.new.equations;
        calls = c.self.inside.calls + 1;
      }
      ≡ run_parts parts c.args.seq c.args.ssrc c.args.share
  after_is =
      let mark : c.mark-mark.result ≡ c.self.inside.buffer.mark = c.mark-mark.ensures.value in
      let previous : c.current-previous.result ≡ current (state_of parts) =
      c.current-previous.ensures ∙ ap (λ (s : Contents). current s.state) (sym c.self.view_is) in
      let buffer = c.begin.ensures.buffer in
      let lines = c.begin.ensures.equations in
      let times = received_times c.self.inside c.self.invariant.timed c.self.inside.buffer.mark c.args.share (omega arith) (omega arith) unreceived
      c.note.new.waiting notes c.self.inside.buffer c.begin.new.buffer same c.begin.ensures.buffer in
      λ i. record parts {
        playout = record { window = c.self.inside.window; depth = c.self.inside.depth; hold = notes.hold i };
        clock = notes.clock i;
        times = times i;
        top = Some (record { position = mark i; seq = c.args.seq; ssrc = c.args.ssrc });
        previous = previous i;
        origin = mark i;
        runs = c.self.inside.runs + 1;
        buffer = buffer i;
        lines = lines i;
        calls = c.self.inside.calls + 1;
      }

pub invariant_of-self : goal.invariant_of-self
invariant_of-self c =
    let d = (goal.at.invariant_of-self c).After-note in
    record {
      sound = subst AreSound (sym (after_is d)) (sound d);
      timed = timed d;
      watched = none_watched c.self.inside.watches (buffer_words c.begin.new.buffer) c.begin.new.equations c.begin.ensures.equations;
    }

pub returns-clause-rest : goal.returns-clause-rest
returns-clause-rest c =
    let d = (goal.at.returns-clause-rest c).After-note in
    subst (λ (p : Parts). GivesWay c.args.self.now c.args.self.now.state.mark c.args.share (contents_of p))
    (sym (after_is d)) (gives_way d)

pub returns-clause-state : goal.returns-clause-state
returns-clause-state c =
    let d = (goal.at.returns-clause-state c).After-note in
    ap state_of (after_is d)
    ∙ ap (λ (s : Contents). with_media (begun s.state) c.args.seq c.args.ssrc s.state.mark c.args.share) c.self.view_is
