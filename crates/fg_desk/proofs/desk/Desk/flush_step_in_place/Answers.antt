use Rattle.std.proofs.Common.{◌≡◌, ◌+◌, ◌-◌, ◌<◌, ◌≤◌, ◌^◌, ℕ, min, Some, ap, sym, subst, ◌∙◌, arith}
use Rattle.std.proofs.Math.Nat.{min-le_left}
use Rattle.fg_playout.specs.Admission.{counted}
use Rattle.fg_playout.specs.Facts.{Holds}
use Rattle.fg_playout.specs.Play.{IsPlay, IsFlushStep, HasMore, IsHighest}
use Rattle.fg_playout.proofs.PlayKeeps.{flush_step_keeps}
use Rattle.fg_buffer.specs.PlayoutBuffer.{BufferState}
use Rattle.fg_desk.specs.Contents.{Contents}
use Rattle.fg_desk.specs.Holding.{times_in, AreTimed}
use Rattle.fg_desk.specs.Inside.{AreSound, state_of}
use Rattle.fg_desk.specs.Parts.{parts_of}
use Rattle.fg_desk.proofs.DeskCloses.{timed_after, play_after, sound_after, changes_after}
use Rattle.fg_desk.proofs.DeskFlushes.{counted_with, sound_with_none, has_no_more, highest_of, highest_limit, more_of, mark_stays, some_played}
use Rattle.fg_desk.proofs.DeskRecovers.{are_in_buffer, still_in_buffer}
use Rattle.fg_desk.proofs.DeskTimes.{after_play}
use Rattle.fg_desk.proofs.DeskWords.{shown_in, known_are_media}
use Rattle.std.specs.FinMap.{FinMap}
use Rattle.std.specs.Ordering.{nat_cmp}
use Rattle.fg_playout.specs.State.{Live}
use Rattle.fg_desk.specs.Closing.{ClosesFirst}
use Rattle.fg_desk.proofs.Relined.{sound_relined, in_buffer_still, closes_still}
use Rattle.fg_desk.proofs.desk.Desk.flush_step_in_place.Goals as goal
use Rattle.fg_desk.proofs.desk.Desk.flush_step_in_place.Goals.{After-find-found, After-close_first}

pub find-found-requires-clause-received : goal.find-found-requires-clause-received
find-found-requires-clause-received c = known_are_media (state_of (parts_of c.self.inside)) c.self.invariant.sound.facts

pub find-found-requires-clause-within : goal.find-found-requires-clause-within
find-found-requires-clause-within c = are_in_buffer (parts_of c.self.inside) c.self.invariant.sound

module _ (c : After-find-found) where
  -- What was found is of no matter for the times.
  counted_is :
      record (counted_with (parts_of c.self.inside) c.find-found.new.buffer) {
        times = times_in c.self.inside.waiting c.find-found.new.buffer.media;
        lines = c.find-found.new.lines;
      }
      ≡ record (counted_with (parts_of c.self.inside) c.find-found.new.buffer) { lines = c.find-found.new.lines }
  counted_is =
      let times = ap (λ (b : BufferState). times_in c.self.inside.waiting b.media) c.find-found.ensures.found.rest in
      λ i. record (counted_with (parts_of c.self.inside) c.find-found.new.buffer) { times = times i; lines = c.find-found.new.lines }

  timed_still : AreTimed c.self.inside.waiting c.find-found.new.buffer.mark c.find-found.new.buffer.media
  timed_still = subst (λ (b : BufferState). AreTimed c.self.inside.waiting b.mark b.media) (sym c.find-found.ensures.found.rest) c.self.invariant.timed

pub invariant_of-self : goal.invariant_of-self
invariant_of-self c =
    let d = (goal.at.invariant_of-self c).After-find-found in
    let calls = subst (λ (s : Contents). s.state.calls < 2 ^ 62) (sym c.self.view_is) c.requires.room.calls in
    record {
      sound = subst AreSound (sym (counted_is d))
          (sound_relined (counted_with (parts_of c.self.inside) c.find-found.new.buffer)
          (sound_with_none (parts_of c.self.inside) c.self.invariant.sound c.find-found.new.buffer c.find-found.result c.find-found.ensures.found
          c.find-found.ensures.laws.keeps c.mark-first.ensures.facts calls c.in_default.ensures.none) c.find-found.new.lines
          c.find-found.ensures.live c.find-found.ensures.settled);
      timed = timed_still d;
      watched = c.find-found.ensures.watched;
    }

pub returns-in_default-clause-flushes : goal.returns-in_default-clause-flushes
returns-in_default-clause-flushes c = (
  subst (λ (s : Contents). ¬ HasMore s.state) c.self.view_is
      (has_no_more (parts_of c.self.inside) c.self.invariant.sound c.find-found.new.buffer c.find-found.result
      c.find-found.ensures.found c.find-found.ensures.laws.closure c.find-found.ensures.laws.filled c.in_default.ensures.none),
  ap state_of (counted_is (goal.at.returns-in_default-clause-flushes c).After-find-found)
      ∙ ap (λ (m : FinMap nat_cmp Live). record (state_of (counted_with (parts_of c.self.inside) c.find-found.new.buffer)) { equations = m })
      c.find-found.ensures.live
      ∙ ap (λ (r : BufferState). state_of (counted_with (parts_of c.self.inside) r)) c.find-found.ensures.found.rest
      ∙ ap (λ (s : Contents). counted s.state) c.self.view_is,
)

pub count_to-count-requires-clause-ahead : goal.count_to-count-requires-clause-ahead
count_to-count-requires-clause-ahead c = let first = c.mark-first.ensures.value in let ahead = c.in-Some.ensures.some.0 in omega arith

pub count_to-count-requires-clause-limit : goal.count_to-count-requires-clause-limit
count_to-count-requires-clause-limit c =
    highest_limit c.find-found.new.buffer c.mark-first.ensures.facts c.in-Some.highest c.in-Some.ensures.some

pub close_first-requires-clause-within : goal.close_first-requires-clause-within
close_first-requires-clause-within c =
    in_buffer_still c.self.inside.lines c.find-found.new.lines c.find-found.ensures.live c.find-found.new.buffer
    (still_in_buffer (parts_of c.self.inside) c.self.invariant.sound c.find-found.new.buffer c.find-found.result
    c.find-found.ensures.found)

pub close_first-requires-clause-settled : goal.close_first-requires-clause-settled
close_first-requires-clause-settled c serial live is settled = (c.find-found.ensures.settled serial live is settled).0

module _ (c : After-close_first) where
  -- What is closed is said of the lines as they were before.
  closes :
      ClosesFirst c.find-found.result c.count_to-count.result c.find-found.new.buffer c.self.inside.lines c.self.inside.waiting
      c.self.inside.epoch c.close_first.result c.close_first.new.buffer c.close_first.new.lines c.close_first.new.waiting
      c.close_first.new.epoch
  closes =
      closes_still c.self.inside.lines c.find-found.new.lines c.find-found.ensures.live c.find-found.result c.count_to-count.result
      c.find-found.new.buffer c.self.inside.waiting c.self.inside.epoch c.close_first.result c.close_first.new.buffer
      c.close_first.new.lines c.close_first.new.waiting c.close_first.new.epoch c.close_first.ensures.closes

  ahead : c.self.inside.buffer.mark ≤ c.in-Some.highest
  ahead =
      more_of (parts_of c.self.inside) c.self.invariant.sound c.find-found.new.buffer c.find-found.result c.find-found.ensures.found
      c.in-Some.highest c.in-Some.ensures.some

  count_is : c.count_to-count.result ≡ min c.self.inside.window (c.in-Some.highest + 1 - c.self.inside.buffer.mark)
  count_is =
      c.count_to-count.ensures
      ∙ ap (λ (first : ℕ). min c.self.inside.window (c.in-Some.highest + 1 - first))
      (c.mark-first.ensures.value
      ∙ mark_stays (parts_of c.self.inside) c.self.invariant.sound c.find-found.new.buffer c.find-found.result c.find-found.ensures.found)

  within : c.count_to-count.result ≤ c.self.inside.window
  within =
      let is = count_is in
      let least = min-le_left c.self.inside.window (c.in-Some.highest + 1 - c.self.inside.buffer.mark) in
      omega (arith, is, least)

  most : c.count_to-count.result ≤ 100
  most = let least = within in let window = c.self.invariant.sound.facts.window.1 in omega (arith, least, window)

  plays :
      IsPlay c.count_to-count.result c.args.self.now.state
      (record {
        first = c.close_first.result.first;
        shown = shown_in c.close_first.new.buffer c.close_first.result.first c.close_first.result.count;
        outcome = c.close_first.result.verdict;
      })
      (state_of (after_play c.self.inside c.close_first.new.buffer c.close_first.new.lines c.close_first.new.waiting c.close_first.new.epoch))
  plays = play_after c.self.inside c.self.invariant c.args.self.now c.self.view_is c.requires.room c.find-found.new.buffer
      c.find-found.result c.find-found.ensures.found c.find-found.ensures.laws c.count_to-count.result most c.close_first.result
      c.close_first.new.buffer c.close_first.new.lines c.close_first.new.waiting c.close_first.new.epoch closes

  is_step :
      IsFlushStep c.args.self.now.state
      (record {
        first = c.close_first.result.first;
        shown = shown_in c.close_first.new.buffer c.close_first.result.first c.close_first.result.count;
        outcome = c.close_first.result.verdict;
      })
      (state_of (after_play c.self.inside c.close_first.new.buffer c.close_first.new.lines c.close_first.new.waiting c.close_first.new.epoch))
  is_step = record {
    highest = c.in-Some.highest;
    highest_is = subst (λ (s : Contents). IsHighest s.state c.in-Some.highest) c.self.view_is
        (highest_of (parts_of c.self.inside) c.self.invariant.sound c.find-found.new.buffer c.find-found.result
        c.find-found.ensures.found c.find-found.ensures.laws.closure c.find-found.ensures.laws.filled c.in-Some.highest
        c.in-Some.ensures.some);
    more = subst (λ (s : Contents). s.state.mark ≤ c.in-Some.highest) c.self.view_is ahead;
    plays = subst
        (λ (count : ℕ). IsPlay count c.args.self.now.state
        (record {
          first = c.close_first.result.first;
          shown = shown_in c.close_first.new.buffer c.close_first.result.first c.close_first.result.count;
          outcome = c.close_first.result.verdict;
        })
        (state_of (after_play c.self.inside c.close_first.new.buffer c.close_first.new.lines c.close_first.new.waiting c.close_first.new.epoch)))
        (count_is ∙ ap (λ (s : Contents). min s.state.playout.window (c.in-Some.highest + 1 - s.state.mark)) c.self.view_is) plays;
  }

  holds :
      Holds
      (state_of (after_play c.self.inside c.close_first.new.buffer c.close_first.new.lines c.close_first.new.waiting c.close_first.new.epoch))
  holds = flush_step_keeps c.args.self.now.state
      (state_of (after_play c.self.inside c.close_first.new.buffer c.close_first.new.lines c.close_first.new.waiting c.close_first.new.epoch))
      (Some (record {
        first = c.close_first.result.first;
        shown = shown_in c.close_first.new.buffer c.close_first.result.first c.close_first.result.count;
        outcome = c.close_first.result.verdict;
      }))
      (subst (λ (s : Contents). Holds s.state) c.self.view_is c.self.invariant.sound.facts) is_step

pub invariant_of-self-2 : goal.invariant_of-self-2
invariant_of-self-2 c =
    let d = (goal.at.invariant_of-self-2 c).After-close_first in
    record {
      sound = sound_after c.self.inside c.self.invariant c.args.self.now c.self.view_is c.requires.room c.find-found.new.buffer
          c.find-found.result c.find-found.ensures.found c.find-found.ensures.laws c.count_to-count.result (most d)
          c.close_first.result c.close_first.new.buffer c.close_first.new.lines c.close_first.new.waiting c.close_first.new.epoch
          (closes d) (holds d);
      timed = timed_after c.self.inside c.self.invariant c.args.self.now c.self.view_is c.requires.room c.find-found.new.buffer
          c.find-found.result c.find-found.ensures.found c.find-found.ensures.laws c.count_to-count.result (most d)
          c.close_first.result c.close_first.new.buffer c.close_first.new.lines c.close_first.new.waiting c.close_first.new.epoch
          (closes d);
      watched = c.close_first.ensures.watched;
    }

pub returns-clause-flushes : goal.returns-clause-flushes
returns-clause-flushes c = is_step (goal.at.returns-clause-flushes c).After-close_first

pub returns-clause-some : goal.returns-clause-some
returns-clause-some c =
    let d = (goal.at.returns-clause-some c).After-close_first in
    let is = count_is d in
    let told = (closes d).count_is in
    let some = some_played c.self.inside.window c.in-Some.highest c.self.inside.buffer.mark c.self.invariant.sound.facts.window.0 (ahead d) in
    let window = within d in (
      omega (arith, is, told, some),
      subst (λ (s : Contents). c.close_first.result.count ≤ s.state.playout.window) c.self.view_is (omega (arith, told, window)),
      changes_after c.self.inside c.self.invariant c.args.self.now c.self.view_is c.requires.room c.find-found.new.buffer
          c.find-found.result c.find-found.ensures.found c.find-found.ensures.laws c.count_to-count.result (most d)
          c.close_first.result c.close_first.new.buffer c.close_first.new.lines c.close_first.new.waiting c.close_first.new.epoch
          (closes d),
    )
