-- The times of the received words after a call of a desk.
use Rattle.std.proofs.Common.{◌≡◌, ◌≢◌, ◌+◌, ◌<◌, ◌≤◌, ◌^◌, ℕ, Bool, true, false, cond, ltb, max, Option, Some, None, IfSome, IfNone, refl, sym, ap, subst, ◌∙◌, ⊎_elim, arith}
use Rattle.std.specs.FinMap.{get, insert}
use Rattle.fg_words.specs.declared.Word.{Word}
use Rattle.std.proofs.lemmas.Option.{none-some}
use Rattle.fg_peel.specs.Words.{IsGreatest}
use Rattle.fg_peel.proofs.Options.{none_or_some, some_and}
use Rattle.fg_hold.specs.HasWaited.{HasWaited}
use Rattle.fg_hold.specs.Waiting.{WaitingState, since}
use Rattle.fg_playout.specs.Held.{at_time, IsHeld}
use Rattle.fg_playout.proofs.Held.{at_time_holds}
use Rattle.fg_playout.specs.declared.reply.Outcome.{Outcome}
use Rattle.fg_playout.specs.declared.reply.Outcome.TheVariants.{Repaired, Inconsistent}
use Rattle.fg_playout.specs.State.{Words}
use Rattle.fg_buffer.specs.PlayoutBuffer.{BufferState, receives}
use Rattle.fg_buffer.specs.LiveEquations.{LiveState}
use Rattle.fg_desk.specs.declared.desk.Desk.TheInside.{Inside}
use Rattle.fg_desk.specs.Holding.{times_in, IsFrom, AreTimed, ComesAt, Notes, Moves, Tells, Foretells}
use Rattle.fg_desk.specs.Inside.{Parts, AreSound, state_of}
use Rattle.fg_desk.specs.Parts.{parts_of, IsDesk}
use Rattle.fg_desk.specs.Storage.{MakesWay, Closes}
use Rattle.fg_desk.proofs.DeskPlays.{played, sound_from}
use Rattle.fg_desk.proofs.Times.{no_time}

-- Making way for a word leaves what was received, and the mark.
pub record SameReceived (buffer new : BufferState) : Type 0 where
  pub media : new.media ≡ buffer.media
  pub mark : new.mark ≡ buffer.mark

by_buffer : (buffer new found : BufferState) → new ≡ found → SameReceived buffer found → SameReceived buffer new
by_buffer buffer new found is same =
    record { media = ap (λ (b : BufferState). b.media) is ∙ same.media; mark = ap (λ (b : BufferState). b.mark) is ∙ same.mark }

pub way_keeps :
    (answer : Bool) (position : ℕ) (word : Word) (buffer new : BufferState) (lines left : LiveState)
    → MakesWay answer position word buffer new lines left → SameReceived buffer new
way_keeps true position word buffer new lines left way =
    by_buffer buffer new _ way.buffer_is (record { media = refl; mark = refl })
way_keeps false position word buffer new lines left way = ⊎_elim
    (λ same. by_buffer buffer new _ same.buffer_is (record { media = refl; mark = refl }))
    (λ anew. by_buffer buffer new _ anew.buffer_is (record { media = refl; mark = refl }))
    way

-- A word is received.
module _
    (a : Inside) (timed : AreTimed a.waiting a.buffer.mark a.buffer.media) (position : ℕ) (word : Word) (ahead : a.buffer.mark ≤ position)
    (near : position < a.buffer.mark + 1000) (none : get a.buffer.media position ≡ None) (waiting : WaitingState)
    (notes : Notes a.waiting position waiting) (between new : BufferState) (same : SameReceived a.buffer between)
    (is : new ≡ receives between position word) where
  comes : ComesAt a.waiting a.buffer.mark a.buffer.media position
  comes = record { timed = timed; ahead = ahead; near = near; none = none }

  media_is : new.media ≡ insert a.buffer.media position word
  media_is = ap (λ (b : BufferState). b.media) is ∙ ap (λ (m : Words). insert m position word) same.media

  pub received_times : times_in waiting new.media ≡ insert (times_in a.waiting a.buffer.media) position a.waiting.clock
  received_times = ap (times_in waiting) media_is ∙ notes.times a.buffer.mark a.buffer.media word comes

  pub received_timed : AreTimed waiting new.mark new.media
  received_timed =
      subst (λ (m : Words). AreTimed waiting new.mark m) (sym media_is)
      (subst (λ (mark : ℕ). AreTimed waiting mark (insert a.buffer.media position word))
      (sym (ap (λ (b : BufferState). b.mark) is ∙ same.mark))
      (notes.timed a.buffer.mark a.buffer.media word comes))

-- What a play leaves of the received words.
pub closed_from :
    (old buffer new : BufferState) (lines left : LiveState) (outcome : Outcome) (count : ℕ)
    → buffer ≡ record old { cached = buffer.cached } → Closes outcome count buffer lines new left → IsFrom new.mark old.media new.media
closed_from old buffer new lines left Repaired count rest closes q =
    closes.0.media q ∙ ap (λ (b : BufferState). cond (ltb q new.mark) None (get b.media q)) rest
closed_from old buffer new lines left Inconsistent count rest closes q =
    closes.0.media q ∙ ap (λ (b : BufferState). cond (ltb q new.mark) None (get b.media q)) rest

pub closed_mark :
    (old buffer new : BufferState) (lines left : LiveState) (outcome : Outcome) (count : ℕ)
    → buffer ≡ record old { cached = buffer.cached } → Closes outcome count buffer lines new left → new.mark ≡ old.mark + count
closed_mark old buffer new lines left Repaired count rest closes = closes.0.mark ∙ ap (λ (b : BufferState). b.mark + count) rest
closed_mark old buffer new lines left Inconsistent count rest closes = closes.0.mark ∙ ap (λ (b : BufferState). b.mark + count) rest

-- The parts after a play, as the fields have them.
abbrev pub after_play : Inside → BufferState → LiveState → WaitingState → ℕ → Parts
after_play a new left waiting epoch = record (parts_of a) {
  playout = record { window = a.window; depth = a.depth; hold = waiting.hold };
  buffer = new;
  clock = waiting.clock;
  times = times_in waiting new.media;
  lines = left;
  calls = a.calls + 1;
  epoch = epoch;
}

pub after_play_is :
    (a : Inside) (new : BufferState) (left : LiveState) (waiting : WaitingState) (epoch mark : ℕ) (outcome : Outcome)
    → Moves a.waiting mark waiting
    → after_play a new left waiting epoch ≡ record (played (parts_of a) outcome new (times_in waiting new.media) left) { epoch = epoch }
after_play_is a new left waiting epoch mark outcome moves = λ i. record (parts_of a) {
  playout = record { window = a.window; depth = a.depth; hold = moves.hold i };
  buffer = new;
  clock = moves.clock i;
  times = times_in waiting new.media;
  lines = left;
  calls = a.calls + 1;
  epoch = epoch;
}

-- A play moves the mark on.
module _
    (a : Inside) (timed : AreTimed a.waiting a.buffer.mark a.buffer.media) (new : BufferState) (waiting : WaitingState) (mark count : ℕ)
    (moves : Moves a.waiting mark waiting) (mark_is : mark ≡ new.mark) (moved : new.mark ≡ a.buffer.mark + count)
    (from : IsFrom new.mark a.buffer.media new.media) where
  moves_here : Moves a.waiting new.mark waiting
  moves_here = subst (λ (m : ℕ). Moves a.waiting m waiting) mark_is moves

  pub played_times :
      (q : ℕ) → get (times_in waiting new.media) q ≡ cond (ltb q new.mark) None (get (times_in a.waiting a.buffer.media) q)
  played_times q = moves_here.times a.buffer.media new.media from q

  pub played_timed : AreTimed waiting new.mark new.media
  played_timed = moves_here.timed a.buffer.mark a.buffer.media new.media timed (omega (arith, moved)) from

-- A word that has waited long enough is one that was received, so it lies in the window.
near_that_waited :
    (waiting : WaitingState) (mark : ℕ) (media : Words) (timed : AreTimed waiting mark media) (clock position : ℕ)
    → HasWaited waiting.hold clock (times_in waiting media) position → (mark ≤ position) × (position < mark + 1000)
near_that_waited waiting mark media timed clock position waited =
    let t = some_and (get (times_in waiting media) position) (λ time. time + waiting.hold ≤ clock) waited in
    ⊎_elim
    (λ none. absurd (none-some t.0 (sym (no_time media (since waiting) position none) ∙ t.1)))
    (λ is. timed.near position is.0 is.1)
    (none_or_some (get media position))

-- A desk is told a time
abbrev pub told_parts : Inside → ℕ → Parts
told_parts a time = record (parts_of a) { clock = max a.waiting.clock time }

-- The parts then, as the fields have them.
abbrev pub after_told : Inside → WaitingState → Parts
after_told a waiting = record (parts_of a) {
  playout = record { window = a.window; depth = a.depth; hold = waiting.hold };
  clock = waiting.clock;
  times = times_in waiting a.buffer.media;
}

module _
    (a : Inside) (desk : IsDesk a) (time mark : ℕ) (result : Option ℕ) (waiting : WaitingState) (some : a.waiting.hold ≢ 0)
    (told : Tells a.waiting time mark result waiting) (mark_is : mark ≡ a.buffer.mark) where
  tells_here : Tells a.waiting time a.buffer.mark result waiting
  tells_here = subst (λ (m : ℕ). Tells a.waiting time m result waiting) mark_is told

  pub after_told_is : after_told a waiting ≡ told_parts a time
  after_told_is =
      let times = tells_here.times a.buffer.media in
      λ i. record (parts_of a) {
        playout = record { window = a.window; depth = a.depth; hold = tells_here.hold i };
        clock = tells_here.clock i;
        times = times i;
      }

  told_sound : AreSound (told_parts a time)
  told_sound =
      sound_from (told_parts a time) desk.sound.limits (at_time_holds (state_of (parts_of a)) time desk.sound.facts) desk.sound.cached
      desk.sound.solved desk.sound.peeled desk.sound.settled desk.sound.rooms desk.sound.beside

  pub after_told_sound : AreSound (after_told a waiting)
  after_told_sound = subst AreSound (sym after_told_is) told_sound

  pub after_told_timed : AreTimed waiting a.buffer.mark a.buffer.media
  after_told_timed = tells_here.timed a.buffer.media desk.timed

  abbrev HasWaitedThen : ℕ → Type 0
  HasWaitedThen = HasWaited waiting.hold waiting.clock (times_in waiting a.buffer.media)

  waited_near : (position : ℕ) → HasWaitedThen position → (a.buffer.mark ≤ position) × (position < a.buffer.mark + 1000)
  waited_near = near_that_waited waiting a.buffer.mark a.buffer.media after_told_timed waiting.clock

  is_held : (position : ℕ) → HasWaitedThen position → IsHeld (state_of (after_told a waiting)) position
  is_held position waited = (λ none. some (sym tells_here.hold ∙ none), (waited_near position waited).0, waited)

  pub greatest_held : (position : ℕ) → IsGreatest HasWaitedThen position → IsGreatest (IsHeld (state_of (after_told a waiting))) position
  greatest_held position is =
      record { inside = is_held position is.inside; greatest = λ other held. is.greatest other held.2 }

  pub some_held : IfSome result (IsGreatest (IsHeld (state_of (after_told a waiting))))
  some_held = go result (tells_here.some a.buffer.media desk.timed)
    where
      go : (r : Option ℕ) → IfSome r (IsGreatest HasWaitedThen) → IfSome r (IsGreatest (IsHeld (state_of (after_told a waiting))))
      go None is = is
      go (Some position) is = greatest_held position is

  pub none_held : IfNone result ((position : ℕ) → ¬ IsHeld (state_of (after_told a waiting)) position)
  none_held = go result (tells_here.none a.buffer.media desk.timed)
    where
      go : (r : Option ℕ) → IfNone r ((position : ℕ) → ¬ HasWaitedThen position) → IfNone r ((position : ℕ) → ¬ IsHeld (state_of (after_told a waiting)) position)
      go None is = λ position held. is position held.2
      go (Some position) is = is

  pub near_held : IfSome result (λ greatest. (a.buffer.mark ≤ greatest) × (greatest < a.buffer.mark + 1000))
  near_held = go result (tells_here.some a.buffer.media desk.timed)
    where
      go : (r : Option ℕ) → IfSome r (IsGreatest HasWaitedThen) → IfSome r (λ greatest. (a.buffer.mark ≤ greatest) × (greatest < a.buffer.mark + 1000))
      go None is = is
      go (Some position) is = waited_near position is.inside

-- It is asked of a time that it isn't told yet.
module _
    (a : Inside) (desk : IsDesk a) (time mark : ℕ) (result : Option ℕ) (foretold : Foretells a.waiting time mark result)
    (mark_is : mark ≡ a.buffer.mark) where
  foretold_here : Foretells a.waiting time a.buffer.mark result
  foretold_here = subst (λ (m : ℕ). Foretells a.waiting time m result) mark_is foretold

  abbrev WillHaveWaited : ℕ → Type 0
  WillHaveWaited = HasWaited a.waiting.hold (max a.waiting.clock time) (times_in a.waiting a.buffer.media)

  abbrev WillBeHeld : ℕ → Type 0
  WillBeHeld = IsHeld (at_time (state_of (parts_of a)) time)

  will_be_near : (position : ℕ) → WillHaveWaited position → (a.buffer.mark ≤ position) × (position < a.buffer.mark + 1000)
  will_be_near = near_that_waited a.waiting a.buffer.mark a.buffer.media desk.timed (max a.waiting.clock time)

  pub some_will_be_held : IfSome result (IsGreatest WillBeHeld)
  some_will_be_held = go result (foretold_here.some a.buffer.media desk.timed)
    where
      go : (r : Option ℕ) → IfSome r (λ n. (0 < a.waiting.hold) × IsGreatest WillHaveWaited n) → IfSome r (IsGreatest WillBeHeld)
      go None is = is
      go (Some n) is = record {
        inside = (λ none. (let limited = is.0 in omega (arith, limited, none)), (will_be_near n is.1.inside).0, is.1.inside);
        greatest = λ other held. is.1.greatest other held.2;
      }

  pub none_will_be_held : IfNone result ((position : ℕ) → ¬ WillBeHeld position)
  none_will_be_held = go result (foretold_here.none a.buffer.media desk.timed)
    where
      go :
          (r : Option ℕ) → (0 < a.waiting.hold → IfNone r ((position : ℕ) → ¬ WillHaveWaited position))
          → IfNone r ((position : ℕ) → ¬ WillBeHeld position)
      go None is = λ position held. is (let limited = held.0 in omega arith) position held.2
      go (Some n) is = tt

  pub limit_of_held : IfSome result (λ greatest. greatest < 2 ^ 62)
  limit_of_held = go result (foretold_here.some a.buffer.media desk.timed)
    where
      go :
          (r : Option ℕ) → IfSome r (λ n. (0 < a.waiting.hold) × IsGreatest WillHaveWaited n)
          → IfSome r (λ greatest. greatest < 2 ^ 62)
      go None is = tt
      go (Some n) is =
          let near = (will_be_near n is.1.inside).1 in
          let mark : a.buffer.mark < 2 ^ 61 + 200 = desk.sound.limits.mark_limit in
          omega (arith, near, mark)
