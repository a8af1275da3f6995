-- The facts hold all along a run, and there is room.
use Rattle.std.proofs.Common.{◌≡◌, ◌≢◌, ◌+◌, ◌-◌, ◌^◌, ◌<◌, ◌≤◌, ℕ, min, max, List, [], ◌∷◌, length, Option, Some, None, IsSome, refl, sym, ap, subst, ◌∙◌, ⊎_elim, arith}
use Rattle.std.proofs.lemmas.Bool.{cases_lt}
use Rattle.std.proofs.lemmas.Option.{none-some}
use Rattle.std.proofs.lemmas.List.Elements.{All-head, All-tail}
use Rattle.std.specs.List.{All, Contains}
use Rattle.std.specs.FinMap.{get}
use Rattle.fg_words.specs.declared.Word.{Word}
use Rattle.fg_shape.specs.Playout.{Playout}
use Rattle.fg_peel.specs.Equation.{Equation, slots}
use Rattle.fg_peel.proofs.Options.{none_or_some, value_of, some_and}
use Rattle.fg_playout.specs.declared.reply.Reply.{Reply}
use Rattle.fg_playout.specs.State.{State, Top, opening}
use Rattle.fg_playout.specs.Admission.{IsDue, kept_count, counted}
use Rattle.fg_playout.specs.Solution.{InClosure, given, derived}
use Rattle.fg_playout.specs.Play.{Play, IsFlushStep}
use Rattle.fg_playout.specs.Held.{at_time, IsHeld, IsHeldStep}
use Rattle.fg_playout.specs.Run.{Arrival, carries, protects, refused, time_of, AreHeldPlays, ArePlaysHeld, unlimited, limited, ArePlaysBefore, by_flush, by_due, TakesThen, Takes, TakesAll}
use Rattle.fg_playout.specs.Facts.{Holds}
use Rattle.fg_playout.specs.Laws.{AreFlushSteps, AreHeldSteps, IsRead, HavePlayed, HavePlayedBefore, HavePlayedThen, HavePlayedFor, still_held, then_played, RunsStayWithin, FlushesStayWithin}
use Rattle.fg_playout.proofs.Equations.{serial_of}
use Rattle.fg_playout.proofs.Orderly.{known_ahead}
use Rattle.fg_peel.proofs.SlotRange.{slot_is_near}
use Rattle.fg_playout.proofs.Opened.{opening_holds, counted_holds, media_keeps}
use Rattle.fg_playout.proofs.Parities.{parity_keeps}
use Rattle.fg_playout.proofs.Plays.{followed_before}
use Rattle.fg_playout.proofs.PlayKeeps.{play_keeps, step_holds}
use Rattle.fg_playout.proofs.Held.{at_time_holds, held_is_received, held_before, held_step_keeps}
use Rattle.fg_playout.proofs.Joining.{plays_due_end, flush_steps_end, ready_after_plays}
use Rattle.fg_playout.proofs.Bounds.{Within, WithinHeld, within_opening, within_held, within_next, within_play, within_media, within_parity, room_below, room_within, counted_room_within}

-- A desk after so many datagrams of a run.
record IsReached (deep most due : ℕ) (desk : State) : Type 0 where
  holds : Holds desk
  within : Within deep most due desk

-- Between the held plays before the next one, and after them.
record IsHeldReached (deep most : ℕ) (desk : State) : Type 0 where
  holds : Holds desk
  within : WithinHeld deep most desk

reached_next : (deep most : ℕ) (desk : State) → IsHeldReached deep most desk → IsReached deep most (most + 1) desk
reached_next deep most desk r = record { holds = r.holds; within = within_next deep most desk r.within }

due_has_top : (desk : State) (seq ssrc : ℕ) → IsDue desk seq ssrc → desk.top ≢ None
due_has_top desk seq ssrc due none = let t = some_and desk.top _ due in none-some t.0 (sym none ∙ t.1)

reached_played :
    (deep most : ℕ) (old : State) (seq ssrc : ℕ) (plays : List Play) (new : State) → IsReached deep most (most + 1) old
    → HavePlayed old seq ssrc plays new → IsReached deep most (most + 1) new
reached_played deep most old seq ssrc [] new r played = subst (IsReached deep most (most + 1)) (sym played) r
reached_played deep most old seq ssrc (play ∷ plays) new r played =
    let next = played.1.0 in
    reached_played deep most next seq ssrc plays new
    (record {
      holds = play_keeps old.playout.window old next play r.holds (due_has_top old seq ssrc played.0) played.1.1;
      within = within_play deep most old seq ssrc play next r.within played.0 played.1.1;
    })
    played.1.2

-- What follows lies less than 100 positions past the depth.
followed_is_near : (desk : State) → Holds desk → (position : ℕ) → InClosure desk position → position < desk.mark + desk.playout.depth + kept_count
followed_is_near desk holds position (given some) = ⊎_elim
    (λ below. omega (arith, below))
    (λ ahead.
    let v = value_of (get desk.media position) (subst (λ (o : Option Word). IsSome o) (known_ahead desk position ahead) some) in
    let near = (holds.media position v.0 v.1).near in
    omega (arith, near))
    (cases_lt position desk.mark)
followed_is_near desk holds position (derived equation listed slot ahead others) =
    let r = serial_of desk equation listed in
    let k = holds.live r.0 r.1 r.2 in
    let at : Contains (slots r.1.equation) position = subst (λ (e : Equation). Contains (slots e) position) (sym r.3) slot in
    let last = (slot_is_near r.1.equation position k.shape at).last in
    let near = k.near in
    omega (arith, last, near)

-- A desk in a flush: what follows lies below the end.
record IsFlushing (top : Option Top) (most end : ℕ) (desk : State) : Type 0 where
  holds : Holds desk
  inside : (position : ℕ) → InClosure desk position → position < end
  mark : desk.mark ≤ end
  top_is : desk.top ≡ top
  calls : desk.calls ≤ most + desk.mark

flushing_step :
    (top : Option Top) (most end : ℕ) (old : State) (play : Play) (next : State) → IsFlushing top most end old
    → IsFlushStep old play next → IsFlushing top most end next
flushing_step top most end old play next f step =
    let count = min old.playout.window (step.highest + 1 - old.mark) in
    let some = f.holds.window.0 in
    let more : old.mark ≤ step.highest = step.more in
    let below : step.highest < end = f.inside step.highest step.highest_is.inside in
    let mark : next.mark ≡ old.mark + min old.playout.window (step.highest + 1 - old.mark) = step.plays.mark in
    let calls = f.calls in
    let counted : next.calls ≡ old.calls + 1 = ap (λ (s : State). s.calls) step.plays.rest in
    record {
      holds = step_holds old next play f.holds step;
      inside = λ p follows. f.inside p (followed_before (min old.playout.window (step.highest + 1 - old.mark)) old play next step.plays p follows);
      mark = omega (arith, mark, more, below);
      top_is = ap (λ (s : State). s.top) step.plays.rest ∙ f.top_is;
      calls = omega (arith, counted, calls, mark, some, more);
    }

flushing_steps :
    (top : Option Top) (most end : ℕ) (old : State) (plays : List Play) (new : State) → IsFlushing top most end old
    → AreFlushSteps old plays new → IsFlushing top most end new
flushing_steps top most end old [] new f steps = subst (IsFlushing top most end) (sym steps) f
flushing_steps top most end old (play ∷ plays) new f steps =
    flushing_steps top most end steps.0 plays new (flushing_step top most end old play steps.0 f steps.1) steps.2

steps_keep_playout : (old : State) (plays : List Play) (new : State) → AreFlushSteps old plays new → new.playout ≡ old.playout
steps_keep_playout old [] new steps = ap (λ (s : State). s.playout) steps
steps_keep_playout old (play ∷ plays) new steps =
    steps_keep_playout steps.0 plays new steps.2 ∙ ap (λ (s : State). s.playout) steps.1.plays.rest

-- A desk between held plays at a time: what is held lies below the end.
record IsHolding (top : Option Top) (playout : Playout) (most end time : ℕ) (desk : State) : Type 0 where
  holds : Holds desk
  inside : (position : ℕ) → IsHeld (at_time desk time) position → position < end
  mark : desk.mark ≤ end
  top_is : desk.top ≡ top
  playout_is : desk.playout ≡ playout
  calls : desk.calls ≤ most + desk.mark

holding_step :
    (top : Option Top) (playout : Playout) (most end time : ℕ) (old : State) (play : Play) (next : State)
    → IsHolding top playout most end time old → IsHeldStep old time (Some play) next → IsHolding top playout most end time next
holding_step top playout most end time old play next f step =
    let some = f.holds.window.0 in
    let ahead : old.mark ≤ step.greatest = step.greatest_is.inside.1 in
    let below : step.greatest < end = f.inside step.greatest step.greatest_is.inside in
    let mark : next.mark ≡ old.mark + min old.playout.window (step.greatest + 1 - old.mark) = step.plays.mark in
    let calls = f.calls in
    let counted : next.calls ≡ old.calls + 1 = ap (λ (s : State). s.calls) step.plays.rest in
    record {
      holds = held_step_keeps old next time (Some play) f.holds step;
      inside = λ p held.
          f.inside p (held_before (min old.playout.window (step.greatest + 1 - old.mark)) old time play next step.plays p held);
      mark = omega (arith, mark, ahead, below);
      top_is = ap (λ (s : State). s.top) step.plays.rest ∙ f.top_is;
      playout_is = ap (λ (s : State). s.playout) step.plays.rest ∙ f.playout_is;
      calls = omega (arith, counted, calls, mark, some, ahead);
    }

holding_steps :
    (top : Option Top) (playout : Playout) (most end time : ℕ) (old : State) (plays : List Play) (new : State)
    → IsHolding top playout most end time old → AreHeldSteps old time plays new → IsHolding top playout most end time new
holding_steps top playout most end time old [] new f steps = subst (IsHolding top playout most end time) (sym steps) f
holding_steps top playout most end time old (play ∷ plays) new f steps =
    holding_steps top playout most end time steps.0 plays new (holding_step top playout most end time old play steps.0 f steps.1) steps.2

-- What is held was received, so it lies below the depth.
held_is_near : (desk : State) (time : ℕ) → Holds desk → (position : ℕ) → IsHeld (at_time desk time) position → position < desk.mark + desk.playout.depth
held_is_near desk time holds position held =
    let some = held_is_received (at_time desk time) position (at_time_holds desk time holds) held in
    ⊎_elim
    (λ none. absurd (some none))
    (λ is. (holds.media position is.0 is.1).near)
    (none_or_some (get desk.media position))

from_holding :
    (deep most end time : ℕ) (old new : State) → Within deep most most old → end ≡ old.mark + old.playout.depth
    → IsHolding old.top old.playout (most + most + most) end time new
    → IsHeldReached deep most new × IsHeldReached deep most (counted (at_time new time))
from_holding deep most end time old new w ends f =
    let mark = w.mark in
    let is = w.depth_is in
    let close = f.mark in
    let calls = f.calls in
    let same_depth : new.playout.depth ≡ old.playout.depth = ap (λ (p : Playout). p.depth) f.playout_is in
    let reached : (clock' calls' : ℕ) → calls' ≤ most + most + most + 1 + new.mark → WithinHeld deep most (record new { clock = clock'; calls = calls' }) =
    λ clock' calls' few. record {
      window = f.holds.window.0;
      fits = f.holds.depth;
      depth_is = same_depth ∙ is;
      shallow = w.shallow;
      top = λ t at. w.top t (sym f.top_is ∙ at);
      mark = omega (arith, mark, is, close, ends);
      calls = few;
    } in (
      record { holds = f.holds; within = reached new.clock new.calls (omega (arith, calls)) },
      record {
        holds = counted_holds (at_time new time) (at_time_holds new time f.holds);
        within = reached (max new.clock time) (new.calls + 1) (omega (arith, calls));
      },
    )

reached_steps :
    (deep most : ℕ) (old : State) (time : ℕ) (plays : List Play) (new : State) → IsReached deep most most old
    → AreHeldSteps old time plays new → IsHeldReached deep most new × IsHeldReached deep most (counted (at_time new time))
reached_steps deep most old time plays new r steps =
    from_holding deep most (old.mark + old.playout.depth) time old new r.within refl
    (holding_steps old.top old.playout (most + most + most) (old.mark + old.playout.depth) time old plays new
    (record {
      holds = r.holds;
      inside = held_is_near old time r.holds;
      mark = omega arith;
      top_is = refl;
      playout_is = refl;
      calls = r.within.calls;
    })
    steps)

-- Held plays until none is defined are held steps, and one call more.
held_plays_are_steps :
    (old : State) (time : ℕ) (plays : List Play) (new : State) → AreHeldPlays old time plays new
    → (last : State) × AreHeldSteps old time plays last × (new ≡ counted (at_time last time))
held_plays_are_steps old time [] new steps = (old, refl, steps.1)
held_plays_are_steps old time (play ∷ plays) new steps =
    let rest = held_plays_are_steps steps.0 time plays new steps.2 in
    (rest.0, (steps.0, steps.1, rest.1), rest.2)

reached_held :
    (deep most : ℕ) (old : State) (time : ℕ) (plays : List Play) (new : State) → IsReached deep most most old
    → ArePlaysHeld old time plays new → IsHeldReached deep most new
reached_held deep most old time plays new r (unlimited none no_plays same) =
    subst (IsHeldReached deep most) (sym same) (record { holds = r.holds; within = within_held deep most old r.within })
reached_held deep most old time plays new r (limited some steps) =
    let s = held_plays_are_steps old time plays new steps in
    subst (IsHeldReached deep most) (sym s.2) (reached_steps deep most old time plays s.0 r s.1).1

-- A flush brings a desk no farther than what follows, even with one call more.
reached_flushed :
    (deep most : ℕ) (old : State) (plays : List Play) (new : State) → IsHeldReached deep most old
    → AreFlushSteps old plays new → IsReached deep most (most + 1) new × IsReached deep most (most + 1) (counted new)
reached_flushed deep most old plays new r steps =
    let w = r.within in
    let mark = w.mark in
    let is = w.depth_is in
    let shallow = w.shallow in
    let f = flushing_steps old.top (most + most + most + 1) (old.mark + old.playout.depth + kept_count) old plays new
    (record { holds = r.holds; inside = followed_is_near old r.holds; mark = omega arith; top_is = refl; calls = w.calls }) steps in
    let end = f.mark in
    let calls = f.calls in
    let playout : new.playout ≡ old.playout = steps_keep_playout old plays new steps in
    let reached : (calls' : ℕ) → calls' ≤ most + (most + 1) + (most + 1) + new.mark → Within deep most (most + 1) (record new { calls = calls' }) =
    λ calls' few. record {
      window = f.holds.window.0;
      fits = f.holds.depth;
      depth_is = ap (λ (p : Playout). p.depth) playout ∙ is;
      shallow = shallow;
      top = λ t is'. w.top t (sym f.top_is ∙ is');
      mark = omega (arith, end, mark, is, shallow);
      calls = few;
    } in (
      record { holds = f.holds; within = reached new.calls (omega (arith, calls)) },
      record { holds = counted_holds new f.holds; within = reached (new.calls + 1) (omega (arith, calls)) },
    )

reached_before :
    (deep most : ℕ) (old : State) (seq ssrc : ℕ) (plays : List Play) (new : State) → IsHeldReached deep most old
    → HavePlayedBefore old seq ssrc plays new → IsReached deep most (most + 1) new
reached_before deep most old seq ssrc plays new r played = ⊎_elim
    (λ flushed. (reached_flushed deep most old plays new r flushed.1).0)
    (λ due. reached_played deep most old seq ssrc plays new (reached_next deep most old r) due.1)
    played

reached_ready :
    (deep most : ℕ) (old : State) (seq ssrc : ℕ) (plays : List Play) (new : State) → IsHeldReached deep most old
    → ArePlaysBefore old seq ssrc plays new → IsReached deep most (most + 1) new
reached_ready deep most old seq ssrc plays new r (by_flush empty fresh flush counts) =
    subst (IsReached deep most (most + 1)) (sym counts)
    (reached_flushed deep most old plays empty r ((flush_steps_end old empty plays).0 flush).0).1
reached_ready deep most old seq ssrc plays new r (by_due stale due) =
    reached_played deep most old seq ssrc plays new (reached_next deep most old r) ((plays_due_end old new seq ssrc plays).0 due).0

reached_then :
    (deep most : ℕ) (old : State) (arrival : Arrival) (plays : List Play) (reply : Option Reply) (new : State) → most < 2 ^ 44
    → IsHeldReached deep most old → IsRead arrival → TakesThen old arrival plays reply new → IsReached deep (most + 1) (most + 1) new
reached_then deep most old (carries time seq ssrc word) plays None new few r read takes = absurd takes
reached_then deep most old (carries time seq ssrc word) plays (Some reply) new few r read takes =
    let ready = reached_ready deep most old seq ssrc plays takes.0 r takes.1 in
    let not_due = (ready_after_plays old takes.0 seq ssrc plays takes.1).0 in
    record {
      holds = media_keeps takes.0 new seq ssrc word reply ready.holds read.2 not_due takes.2;
      within = within_media deep most takes.0 new seq ssrc word reply ready.within takes.2.after;
    }
reached_then deep most old (protects time stream parity) plays None new few r read takes = absurd takes
reached_then deep most old (protects time stream parity) plays (Some reply) new few r read takes =
    let next = reached_next deep most old r in
    record {
      holds = parity_keeps old new parity reply r.holds (room_within deep most old few next.within) read.1 takes.1;
      within = within_parity deep most (most + 1) old new parity reply next.within takes.1.after;
    }
reached_then deep most old (refused time stream) plays None new few r read takes =
    let same : new ≡ old = takes.1 in
    let w = (reached_next deep most old r).within in
    let calls = w.calls in
    subst (IsReached deep (most + 1) (most + 1)) (sym same)
    (record {
      holds = r.holds;
      within = record {
        window = w.window;
        fits = w.fits;
        depth_is = w.depth_is;
        shallow = w.shallow;
        top = λ t is. (let limit = w.top t is in omega (arith, limit));
        mark = w.mark;
        calls = omega (arith, calls);
      };
    })
reached_then deep most old (refused time stream) plays (Some reply) new few r read takes = absurd takes

reached_taken :
    (deep most : ℕ) (old : State) (arrival : Arrival) (plays : List Play) (reply : Option Reply) (new : State) → most < 2 ^ 44
    → IsReached deep most most old → IsRead arrival → Takes old arrival plays reply new → IsReached deep (most + 1) (most + 1) new
reached_taken deep most old arrival plays reply new few r read takes =
    reached_then deep most takes.ready arrival takes.after reply new few
    (reached_held deep most old (time_of arrival) takes.held takes.ready r takes.holds) read takes.takes

-- Where a run has got with at most so many datagrams.
record IsReachedBelow (deep limit : ℕ) (desk : State) : Type 0 where
  most : ℕ
  few : most ≤ limit
  reached : IsReached deep most most desk

reached_all :
    (deep limit most : ℕ) (old : State) (arrivals : List Arrival) (plays : List Play) (replies : List (Option Reply)) (new : State)
    → limit < 2 ^ 44 → most + length arrivals ≤ limit → IsReached deep most most old → All IsRead arrivals
    → TakesAll old arrivals plays replies new → IsReachedBelow deep limit new
reached_all deep limit most old [] plays replies new small few r read takes = record {
  most = most;
  few = omega (arith, few);
  reached = subst (IsReached deep most most) (sym takes.2) r;
}
reached_all deep limit most old (arrival ∷ arrivals) plays [] new small few r read takes = absurd takes
reached_all deep limit most old (arrival ∷ arrivals) plays (reply ∷ replies) new small few r read takes =
    reached_all deep limit (most + 1) takes.2 arrivals takes.1 replies new small (omega (arith, few))
    (reached_taken deep most old arrival takes.0 reply takes.2 (omega (arith, few, small)) r (All-head IsRead arrival arrivals read) takes.4)
    (All-tail IsRead arrival arrivals read) takes.5

reached_run :
    (playout : Playout) (arrivals : List Arrival) (plays : List Play) (replies : List (Option Reply)) (new : State)
    → 1 ≤ playout.window → playout.window ≤ 100 → playout.window ≤ playout.depth → playout.depth ≤ 1000 → All IsRead arrivals
    → length arrivals < 2 ^ 44 → TakesAll (opening playout) arrivals plays replies new → IsReachedBelow playout.depth (length arrivals) new
reached_run playout arrivals plays replies new one most fits deep read few takes =
    reached_all playout.depth (length arrivals) 0 (opening playout) arrivals plays replies new few (omega arith)
    (record { holds = opening_holds playout one most fits; within = within_opening playout one fits deep }) read takes

-- What a datagram has played so far brings a desk no farther.
reached_then_played :
    (deep most : ℕ) (old : State) (arrival : Arrival) (plays : List Play) (new : State) → IsHeldReached deep most old
    → HavePlayedThen old arrival plays new → IsReached deep most (most + 1) new
reached_then_played deep most old (carries time seq ssrc word) plays new r played = reached_before deep most old seq ssrc plays new r played
reached_then_played deep most old (protects time stream parity) plays new r played =
    subst (IsReached deep most (most + 1)) (sym played.1) (reached_next deep most old r)
reached_then_played deep most old (refused time stream) plays new r played =
    subst (IsReached deep most (most + 1)) (sym played.1) (reached_next deep most old r)

reached_for :
    (deep most : ℕ) (old : State) (arrival : Arrival) (plays : List Play) (new : State) → IsReached deep most most old
    → HavePlayedFor old arrival plays new → IsReached deep most (most + 1) new
reached_for deep most old arrival plays new r (still_held some steps) =
    reached_next deep most new (reached_steps deep most old (time_of arrival) plays new r steps).0
reached_for deep most old arrival plays new r (then_played held after ready holds are played) =
    reached_then_played deep most ready arrival after new (reached_held deep most old (time_of arrival) held ready r holds) played

pub runs_stay_within : RunsStayWithin
runs_stay_within playout next arrivals plays due replies taken new one most fits deep read few takes played =
    let b = reached_run playout arrivals plays replies taken one most fits deep read few takes in
    let below = b.few in
    let r = reached_for playout.depth b.most taken next due new b.reached played in
    let small : b.most < 2 ^ 44 = omega (arith, below, few) in
    (r.holds, room_within playout.depth b.most new small r.within, counted_room_within playout.depth b.most new small r.within)

pub flushes_stay_within : FlushesStayWithin
flushes_stay_within playout arrivals plays flushed replies filled new one most fits deep read few takes steps =
    let b = reached_run playout arrivals plays replies filled one most fits deep read few takes in
    let below = b.few in
    let w = b.reached.within in
    let mark = w.mark in
    let is = w.depth_is in
    let f = flushing_steps filled.top (b.most + b.most + b.most) (filled.mark + filled.playout.depth + kept_count) filled flushed new
    (record {
      holds = b.reached.holds;
      inside = followed_is_near filled b.reached.holds;
      mark = omega arith;
      top_is = refl;
      calls = w.calls;
    }) steps in
    let end = f.mark in
    let calls = f.calls in (
      f.holds,
      room_below new
          (omega (arith, end, mark, is, deep, below, few))
          (λ t is'. (let limit = w.top t (sym f.top_is ∙ is') in omega (arith, limit, below, few)))
          (omega (arith, calls, end, mark, is, deep, below, few)),
    )
