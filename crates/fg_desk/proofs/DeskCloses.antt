-- What a play makes of a desk, by what was found before it and what it closed.
use Rattle.std.proofs.Common.{◌≡◌, ◌+◌, ◌<◌, ◌≤◌, ◌^◌, ℕ, Bool, cond, ltb, None, IsSome, refl, sym, ap, subst, ◌∙◌}
use Rattle.std.specs.FinMap.{FinMap, get}
use Rattle.std.specs.Ordering.{nat_cmp}
use Rattle.fg_hold.specs.Waiting.{WaitingState}
use Rattle.fg_peel.proofs.Options.{none_has_no_value}
use Rattle.fg_playout.proofs.PlayKeeps.{play_keeps}
use Rattle.fg_playout.specs.Facts.{Holds}
use Rattle.fg_playout.specs.Play.{IsPlay}
use Rattle.fg_playout.specs.Room.{HasRoom}
use Rattle.fg_playout.specs.State.{live_equations}
use Rattle.fg_buffer.specs.PlayoutBuffer.{BufferState}
use Rattle.fg_buffer.specs.LiveEquations.{LiveState}
use Rattle.fg_desk.specs.declared.desk.Played.{Played}
use Rattle.fg_desk.specs.declared.desk.Desk.TheInside.{Inside}
use Rattle.fg_desk.specs.Closing.{PlayLaws, ClosesFirst}
use Rattle.fg_desk.specs.Contents.{Contents, ChangesInPlay}
use Rattle.fg_desk.specs.Holding.{times_in, IsFrom, AreTimed}
use Rattle.fg_desk.specs.Inside.{Parts, AreSound, state_of, contents_of}
use Rattle.fg_desk.specs.Parts.{parts_of, IsDesk}
use Rattle.fg_desk.specs.Storage.{IsRecovered}
use Rattle.fg_desk.proofs.DeskPlayed.{closed_play, closed_sound, closed_changes, sound_with_epoch}
use Rattle.fg_desk.proofs.DeskPlays.{played}
use Rattle.fg_desk.proofs.DeskTimes.{closed_from, closed_mark, after_play, after_play_is, played_times, played_timed}
use Rattle.fg_desk.proofs.DeskWords.{shown_in}

module _
    (a : Inside) (desk : IsDesk a) (old : Contents) (view : contents_of (parts_of a) ≡ old) (room : HasRoom old.state)
    (buffer : BufferState) (solved : Bool)
    (found : IsRecovered (live_equations (state_of (parts_of a))) a.buffer buffer solved) (laws : PlayLaws)
    (count : ℕ) (most : count ≤ 100) (play : Played) (new : BufferState) (left : LiveState) (rest : WaitingState) (epoch : ℕ)
    (closes : ClosesFirst solved count buffer a.lines a.waiting a.epoch play new left rest epoch) where
  abbrev times : FinMap nat_cmp ℕ
  times = times_in rest new.media

  abbrev then : Parts
  then = played (parts_of a) play.verdict new times left

  from : IsFrom new.mark a.buffer.media new.media
  from = closed_from a.buffer buffer new a.lines left play.verdict count found.rest closes.closes

  moved : new.mark ≡ a.buffer.mark + count
  moved = closed_mark a.buffer buffer new a.lines left play.verdict count found.rest closes.closes

  times_are : (q : ℕ) → get times q ≡ cond (ltb q new.mark) None (get (times_in a.waiting a.buffer.media) q)
  times_are = played_times a desk.timed new rest new.mark count closes.moves refl moved from

  after_is : after_play a new left rest epoch ≡ record then { epoch = epoch }
  after_is = after_play_is a new left rest epoch new.mark play.verdict closes.moves

  pub timed_after : AreTimed rest new.mark new.media
  timed_after = played_timed a desk.timed new rest new.mark count closes.moves refl moved from

  is_play :
      IsPlay count (state_of (parts_of a))
      (record { first = a.buffer.mark; shown = shown_in new a.buffer.mark count; outcome = play.verdict }) (state_of then)
  is_play =
      closed_play (parts_of a) desk.sound buffer solved found laws.solutions laws.keeps laws.kept closes.facts count new left times
      times_are play.verdict most closes.closes closes.outcome

  pub play_after :
      IsPlay count old.state
      (record { first = play.first; shown = shown_in new play.first play.count; outcome = play.verdict })
      (state_of (after_play a new left rest epoch))
  play_after =
      subst
      (λ (s : Contents). IsPlay count s.state
      (record { first = play.first; shown = shown_in new play.first play.count; outcome = play.verdict })
      (state_of (after_play a new left rest epoch))) view
      (subst
      (λ (p : Parts). IsPlay count (state_of (parts_of a))
      (record { first = play.first; shown = shown_in new play.first play.count; outcome = play.verdict }) (state_of p)) (sym after_is)
      (subst
      (λ (n : ℕ). IsPlay count (state_of (parts_of a))
      (record { first = play.first; shown = shown_in new play.first n; outcome = play.verdict }) (state_of then)) (sym closes.count_is)
      (subst
      (λ (first : ℕ). IsPlay count (state_of (parts_of a))
      (record { first = first; shown = shown_in new first count; outcome = play.verdict }) (state_of then))
      (sym (closes.first ∙ ap (λ (b : BufferState). b.mark) found.rest)) is_play)))

  -- Where a run was begun, the facts hold then.
  pub holds_after : IsSome old.state.top → Holds (state_of (after_play a new left rest epoch))
  holds_after started =
      play_keeps count old.state (state_of (after_play a new left rest epoch))
      (record { first = play.first; shown = shown_in new play.first play.count; outcome = play.verdict })
      (subst (λ (s : Contents). Holds s.state) view desk.sound.facts) (λ none. none_has_no_value old.state.top none started) play_after

  pub sound_after : Holds (state_of (after_play a new left rest epoch)) → AreSound (after_play a new left rest epoch)
  sound_after facts =
      let mark : a.buffer.mark < 2 ^ 61 = subst (λ (s : Contents). s.state.mark < 2 ^ 61) (sym view) room.mark in
      let calls : a.calls < 2 ^ 62 = subst (λ (s : Contents). s.state.calls < 2 ^ 62) (sym view) room.calls in
      subst AreSound (sym after_is)
      (sound_with_epoch (parts_of a) desk.sound buffer solved found laws.solutions laws.keeps laws.kept closes.facts count new left times
      times_are play.verdict epoch closes.epoch_is
      (closed_sound (parts_of a) desk.sound buffer solved found laws.solutions laws.keeps laws.kept closes.facts count new left times
      times_are laws.appended laws.stays mark calls most play.verdict closes.closes closes.outcome
      (subst (λ (p : Parts). Holds (state_of p)) after_is facts)))

  pub changes_after : ChangesInPlay play.verdict old (contents_of (after_play a new left rest epoch))
  changes_after =
      subst (λ (s : Contents). ChangesInPlay play.verdict s (contents_of (after_play a new left rest epoch))) view
      (subst (λ (p : Parts). ChangesInPlay play.verdict (contents_of (parts_of a)) (contents_of p)) (sym after_is)
      (closed_changes (parts_of a) desk.sound buffer solved found laws.solutions laws.keeps laws.kept closes.facts count new left times
      times_are play.verdict epoch closes.epoch_is closes.closes))
