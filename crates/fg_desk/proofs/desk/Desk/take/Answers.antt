use Rattle.std.proofs.Common.{◌≡◌, ◌+◌, ◌<◌, ◌≤◌, ◌^◌, ℕ, Some, None, sym, ap, subst, ◌∙◌, arith}
use Rattle.std.specs.FinMap.{get}
use Rattle.fg_buffer.specs.PlayoutBuffer.{receives}
use Rattle.fg_desk.specs.Contents.{Contents, GivesWay}
use Rattle.fg_playout.specs.Admission.{with_media}
use Rattle.fg_playout.specs.Facts.{Holds}
use Rattle.fg_desk.specs.Holding.{times_in, AreTimed}
use Rattle.fg_desk.specs.Inside.{Parts, AreSound, state_of, contents_of}
use Rattle.fg_desk.specs.Parts.{parts_of, top_of}
use Rattle.fg_desk.proofs.DeskReceives.{raised_within, taken, takes_sound, takes_state, takes_give_way}
use Rattle.fg_desk.proofs.DeskTimes.{SameReceived, way_keeps, received_times, received_timed}
use Rattle.fg_desk.proofs.desk.Desk.take.Goals as goal
use Rattle.fg_desk.proofs.desk.Desk.take.Goals.{After-raised_epoch-self-inside}

module _ (c : After-raised_epoch-self-inside) where
  ahead : c.self.inside.buffer.mark ≤ c.args.position
  ahead = subst (λ (s : Contents). s.state.mark ≤ c.args.position) (sym c.self.view_is) c.requires.ahead

  near : c.args.position < c.self.inside.buffer.mark + 1000
  near =
      let below : c.args.position < c.self.inside.buffer.mark + c.self.inside.depth =
      subst (λ (s : Contents). c.args.position < s.state.mark + s.state.playout.depth) (sym c.self.view_is) c.requires.near in
      let limit = c.self.invariant.sound.limits.depth_limit in
      omega (arith, below, limit)

  none : get c.self.inside.buffer.media c.args.position ≡ None
  none = subst (λ (s : Contents). get s.state.media c.args.position ≡ None) (sym c.self.view_is) c.requires.none

  same : SameReceived c.self.inside.buffer c.receive-withdrawn.ensures.receives.0
  same = way_keeps c.receive-withdrawn.result c.args.position c.args.share c.self.inside.buffer c.receive-withdrawn.ensures.receives.0
      c.self.inside.lines c.receive-withdrawn.new.lines c.receive-withdrawn.ensures.receives.1

  -- The parts after the call.
  abbrev after : Parts
  after = taken (parts_of c.self.inside) c.args.position c.args.seq c.args.ssrc c.args.share c.receive-withdrawn.ensures.receives.0
      c.receive-withdrawn.new.lines c.raised_epoch-self-inside.result

  after_is :
      record (parts_of c.self.inside) {
        playout = record { window = c.self.inside.window; depth = c.self.inside.depth; hold = c.note.new.waiting.hold };
        top = Some (top_of c.farther.result);
        buffer = c.receive-withdrawn.new.buffer;
        clock = c.note.new.waiting.clock;
        times = times_in c.note.new.waiting c.receive-withdrawn.new.buffer.media;
        lines = c.receive-withdrawn.new.lines;
        calls = c.self.inside.calls + 1;
        epoch = c.raised_epoch-self-inside.result;
      }
      ≡ after
  after_is =
      let top = c.farther.ensures in
      let notes = c.note.ensures in
      let buffer : c.receive-withdrawn.new.buffer ≡ receives c.receive-withdrawn.ensures.receives.0 c.args.position c.args.share = c.receive-withdrawn.ensures.receives.2 in
      let times = received_times c.self.inside c.self.invariant.timed c.args.position c.args.share ahead near none c.note.new.waiting notes
      c.receive-withdrawn.ensures.receives.0 c.receive-withdrawn.new.buffer same buffer in
      λ i. record (parts_of c.self.inside) {
        playout = record { window = c.self.inside.window; depth = c.self.inside.depth; hold = notes.hold i };
        top = top i;
        buffer = buffer i;
        clock = notes.clock i;
        times = times i;
        lines = c.receive-withdrawn.new.lines;
        calls = c.self.inside.calls + 1;
        epoch = c.raised_epoch-self-inside.result;
      }

  timed : AreTimed c.note.new.waiting c.receive-withdrawn.new.buffer.mark c.receive-withdrawn.new.buffer.media
  timed = received_timed c.self.inside c.self.invariant.timed c.args.position c.args.share ahead near none c.note.new.waiting c.note.ensures
      c.receive-withdrawn.ensures.receives.0 c.receive-withdrawn.new.buffer same c.receive-withdrawn.ensures.receives.2

  sound : AreSound after
  sound =
      let facts : Holds (with_media (state_of (parts_of c.self.inside)) c.args.seq c.args.ssrc c.args.position c.args.share) =
      subst (λ (s : Contents). Holds (with_media s.state c.args.seq c.args.ssrc c.args.position c.args.share))
      (sym c.self.view_is)
      c.requires.holds in
      let calls : c.self.inside.calls < 2 ^ 62 =
      subst (λ (s : Contents). s.state.calls < 2 ^ 62) (sym c.self.view_is) c.requires.calls in
      takes_sound (parts_of c.self.inside) c.self.invariant.sound c.args.position c.args.seq c.args.ssrc c.args.share ahead none facts
      c.requires.limit calls c.peelings_stay.ensures.words c.receive-withdrawn.result
      c.receive-withdrawn.ensures.receives.0 c.receive-withdrawn.new.lines c.raised_epoch-self-inside.result
      (subst (λ (epoch : ℕ). epoch ≤ c.self.inside.calls + 1) (sym c.raised_epoch-self-inside.ensures)
      (raised_within c.self.inside.epoch c.self.inside.calls c.receive-withdrawn.result c.self.invariant.sound.limits.epoch_limit))
      c.receive-withdrawn.ensures.receives.1

  state : state_of after ≡ with_media c.args.self.now.state c.args.seq c.args.ssrc c.args.position c.args.share
  state =
      takes_state (parts_of c.self.inside) c.self.invariant.sound c.args.position c.args.seq c.args.ssrc c.args.share ahead none
      c.receive-withdrawn.result c.receive-withdrawn.ensures.receives.0 c.receive-withdrawn.new.lines c.raised_epoch-self-inside.result
      c.receive-withdrawn.ensures.receives.1
      ∙ ap (λ (s : Contents). with_media s.state c.args.seq c.args.ssrc c.args.position c.args.share) c.self.view_is

  gives_way : GivesWay c.args.self.now c.args.position c.args.share (contents_of after)
  gives_way =
      subst (λ (s : Contents). GivesWay s c.args.position c.args.share (contents_of after)) c.self.view_is
      (takes_give_way (parts_of c.self.inside) c.self.invariant.sound c.args.position c.args.seq c.args.ssrc c.args.share ahead none
      c.receive-withdrawn.result c.receive-withdrawn.ensures.receives.0 c.receive-withdrawn.new.lines c.raised_epoch-self-inside.result
      c.raised_epoch-self-inside.ensures c.receive-withdrawn.ensures.receives.1)

pub invariant_of-self : goal.invariant_of-self
invariant_of-self c =
    let d = (goal.at.invariant_of-self c).After-raised_epoch-self-inside in
    record { sound = subst AreSound (sym (after_is d)) (sound d); timed = timed d; watched = c.receive-withdrawn.ensures.watched }

pub returns-clause-state : goal.returns-clause-state
returns-clause-state c =
    let d = (goal.at.returns-clause-state c).After-raised_epoch-self-inside in ap state_of (after_is d) ∙ state d

pub returns-clause-rest : goal.returns-clause-rest
returns-clause-rest c =
    let d = (goal.at.returns-clause-rest c).After-raised_epoch-self-inside in
    subst (λ (p : Parts). GivesWay c.args.self.now c.args.position c.args.share (contents_of p)) (sym (after_is d)) (gives_way d)
