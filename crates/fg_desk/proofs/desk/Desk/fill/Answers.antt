use Rattle.std.proofs.Common.{◌≡◌, ℕ, false, sym, ap, subst, ◌∙◌, arith}
use Rattle.fg_desk.specs.Contents.{Contents, CanFill, IsLiveAt, filled}
use Rattle.fg_playout.specs.State.{Words}
use Rattle.fg_desk.specs.Holding.{times_in, AreTimed}
use Rattle.fg_desk.specs.Inside.{AreSound, state_of, contents_of}
use Rattle.fg_buffer.specs.LiveEquations.{SettlesAt}
use Rattle.fg_desk.specs.Parts.{parts_of}
use Rattle.fg_buffer.specs.PlayoutBuffer.{BufferState, buffer_words, publishes}
use Rattle.fg_desk.proofs.DeskTimes.{SameReceived, way_keeps}
use Rattle.fg_desk.proofs.DeskFills.{fills_here, can_put, filled_sound, filled_contents}
use Rattle.fg_desk.proofs.DeskWays.{with_buffer}
use Rattle.fg_desk.proofs.WatchedLines.{settled_watched}
use Rattle.fg_desk.proofs.desk.Desk.fill.Goals as goal
use Rattle.fg_desk.proofs.desk.Desk.fill.Goals.{After-settle_at}

pub publish-requires-clause-ahead : goal.publish-requires-clause-ahead
publish-requires-clause-ahead c =
    (can_put (parts_of c.self.inside) c.self.invariant.sound c.args.self.now c.args.place c.args.slot c.args.share c.self.view_is c.requires).ahead

pub publish-requires-clause-near : goal.publish-requires-clause-near
publish-requires-clause-near c =
    (can_put (parts_of c.self.inside) c.self.invariant.sound c.args.self.now c.args.place c.args.slot c.args.share c.self.view_is c.requires).near

pub publish-requires-clause-none : goal.publish-requires-clause-none
publish-requires-clause-none c =
    (can_put (parts_of c.self.inside) c.self.invariant.sound c.args.self.now c.args.place c.args.slot c.args.share c.self.view_is c.requires).none

pub publish-requires-clause-unsolved : goal.publish-requires-clause-unsolved
publish-requires-clause-unsolved c =
    (can_put (parts_of c.self.inside) c.self.invariant.sound c.args.self.now c.args.place c.args.slot c.args.share c.self.view_is c.requires).unsolved

module _ (c : After-settle_at) where
  -- The live equation that gives the word.
  at : IsLiveAt (state_of (parts_of c.self.inside)) c.args.place
      (λ equation. CanFill (contents_of (parts_of c.self.inside)) equation c.args.slot c.args.share)
  at =
      fills_here (contents_of (parts_of c.self.inside)) c.args.self.now c.args.place c.args.slot c.args.share c.self.view_is
      c.requires

  settles : SettlesAt at.1.place c.publish.new.lines c.settle_at.new.self
  settles = subst (λ (place : ℕ). SettlesAt place c.publish.new.lines c.settle_at.new.self) (sym at.3) c.settle_at.ensures

  buffer_is : c.publish.new.buffer ≡ publishes c.publish.ensures.publishes.0 c.args.slot c.args.share
  buffer_is = c.publish.ensures.publishes.2

  sound : AreSound (with_buffer (parts_of c.self.inside) c.publish.new.buffer c.settle_at.new.self)
  sound =
      subst (λ (r : BufferState). AreSound (with_buffer (parts_of c.self.inside) r c.settle_at.new.self)) (sym buffer_is)
      (filled_sound (parts_of c.self.inside) c.self.invariant.sound at.0 at.1 at.2 c.args.slot at.4.missing c.args.share
      c.publish.ensures.publishes.0 c.publish.new.lines c.settle_at.new.self c.publish.ensures.publishes.1 settles
      at.4.word_is c.publish.ensures.room c.peelings_fill_the_closure.ensures.appended
      (record {
        commutes = c.xor_is_a_group.ensures.commutes;
        associates = c.xor_is_a_group.ensures.associates;
        has_zero = c.xor_is_a_group.ensures.has_zero;
        undoes = c.xor_is_a_group.ensures.undoes_itself;
      }))

  contents :
      contents_of (with_buffer (parts_of c.self.inside) c.publish.new.buffer c.settle_at.new.self)
      ≡ filled c.args.self.now c.args.slot c.args.share
  contents =
      ap (λ (r : BufferState). contents_of (with_buffer (parts_of c.self.inside) r c.settle_at.new.self)) buffer_is
      ∙ filled_contents (parts_of c.self.inside) c.self.invariant.sound at.0 at.1 at.2 c.args.slot at.4.missing c.args.share
      c.publish.ensures.publishes.0 c.publish.new.lines c.settle_at.new.self c.publish.ensures.publishes.1 settles
      ∙ ap (λ (s : Contents). filled s c.args.slot c.args.share) c.self.view_is

  -- A solved word changes nothing of those received.
  same : SameReceived c.self.inside.buffer c.publish.ensures.publishes.0
  same = way_keeps false c.args.slot c.args.share c.self.inside.buffer c.publish.ensures.publishes.0 c.self.inside.lines c.publish.new.lines
      c.publish.ensures.publishes.1

  media_is : c.publish.new.buffer.media ≡ c.self.inside.buffer.media
  media_is = ap (λ (b : BufferState). b.media) buffer_is ∙ same.media

  timed : AreTimed c.self.inside.waiting c.publish.new.buffer.mark c.publish.new.buffer.media
  timed =
      subst (λ (m : Words). AreTimed c.self.inside.waiting c.publish.new.buffer.mark m) (sym media_is)
      (subst (λ (mark : ℕ). AreTimed c.self.inside.waiting mark c.self.inside.buffer.media)
      (sym (ap (λ (b : BufferState). b.mark) buffer_is ∙ same.mark)) c.self.invariant.timed)

  -- So their times are the same.
  parts_are :
      record (parts_of c.self.inside) {
        buffer = c.publish.new.buffer;
        times = times_in c.self.inside.waiting c.publish.new.buffer.media;
        lines = c.settle_at.new.self;
      }
      ≡ with_buffer (parts_of c.self.inside) c.publish.new.buffer c.settle_at.new.self
  parts_are =
      let times = ap (times_in c.self.inside.waiting) media_is in
      λ i. record (parts_of c.self.inside) { buffer = c.publish.new.buffer; times = times i; lines = c.settle_at.new.self }

pub invariant_of-self : goal.invariant_of-self
invariant_of-self c = record {
  sound = subst AreSound (sym (parts_are c)) (sound c);
  timed = timed c;
  watched = settled_watched c.args.place c.publish.new.lines c.settle_at.new.self c.settle_at.ensures c.publish.new.watches
      (buffer_words c.publish.new.buffer) c.publish.ensures.watched;
}

pub publish-requires-clause-limit : goal.publish-requires-clause-limit
publish-requires-clause-limit c =
    let near = (can_put (parts_of c.self.inside) c.self.invariant.sound c.args.self.now c.args.place c.args.slot c.args.share c.self.view_is c.requires).near in
    let reach = c.self.invariant.sound.limits.reach_is in
    let depth = c.self.invariant.sound.limits.depth_limit in
    let mark = c.self.invariant.sound.limits.mark_limit in
    omega (arith, near, reach, depth, mark)

pub returns : goal.returns
returns c = ap contents_of (parts_are c) ∙ contents c
