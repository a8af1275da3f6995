-- A flow has a run.
use Rattle.std.proofs.Common.{◌≡◌, ◌+◌, ◌-◌, ◌<◌, ◌≤◌, ◌++◌, ℕ, zero, suc, min, List, [], ◌∷◌, Option, Some, None, IsSomeAnd, inr, refl, sym, ap, ◌∙◌, ⊎_elim, arith}
use Rattle.std.proofs.lemmas.Bool.{cases_eq}
use Rattle.std.proofs.lemmas.Option.{none-some, same_Some}
use Rattle.std.proofs.lemmas.List.Elements.{All-head, All-tail}
use Rattle.std.specs.List.{All}
use Rattle.fg_unwrap.specs.Position.{position_of}
use Rattle.fg_shape.specs.Playout.{Playout}
use Rattle.fg_peel.proofs.Options.{none_or_some, some_and}
use Rattle.fg_playout.specs.declared.reply.Reply.{Reply}
use Rattle.fg_playout.specs.State.{State, Top, opening}
use Rattle.fg_playout.specs.Admission.{IsDue, counted}
use Rattle.fg_playout.specs.Solution.{InClosure}
use Rattle.fg_playout.specs.Play.{Play, IsPlay}
use Rattle.fg_playout.specs.Held.{at_time, IsHeld}
use Rattle.fg_playout.specs.Run.{Arrival, carries, protects, refused, time_of, AreHeldPlays, ArePlaysHeld, unlimited, limited, ArePlaysDue, ArePlaysBefore, by_flush, by_due, TakesThen, Takes, TakesAll, IsFlush}
use Rattle.fg_playout.specs.Laws.{IsRead}
use Rattle.fg_playout.specs.Facts.{Holds}
use Rattle.fg_playout.specs.Existence.{PeelingLaws, PlaysDueExist, PlaysHeldExist, PlaysBeforeExist, FlushExists, TakingsExist, RunsExist}
use Rattle.fg_playout.proofs.Decided.{IsDecided, decided_both, decided_most}
use Rattle.fg_playout.proofs.DecidedSolutions.{closure_limit}
use Rattle.fg_playout.proofs.Orderly.{IsOrderly, orderly_from_holds, orderly_opening}
use Rattle.fg_playout.proofs.OrderlyAdmissions.{orderly_counted, orderly_after_media, orderly_after_parity}
use Rattle.fg_playout.proofs.Plays.{orderly_after_play, followed_before}
use Rattle.fg_playout.proofs.PlayOutcomes.{play_outcomes, more_or_none}
use Rattle.fg_playout.proofs.Held.{at_time_orderly, held_limit, held_before, held_or_none}
use Rattle.fg_playout.proofs.Senders.{fresh_is_decided}
use Rattle.fg_playout.proofs.ReplyOutcomes.{media_outcome, parity_outcome}

decided_and : {X : Type 0} (o : Option X) (P : X → Type 0) → ((x : X) → IsDecided (P x)) → IsDecided (IsSomeAnd o P)
decided_and None P each = inr (λ h. h)
decided_and (Some x) P each = each x

decided_due : (desk : State) (seq ssrc : ℕ) → IsDecided (IsDue desk seq ssrc)
decided_due desk seq ssrc =
    let IsFar : ℕ → Type 0 = λ position. desk.mark + desk.playout.depth ≤ position in
    decided_and desk.top (λ top. (top.ssrc ≡ ssrc) × IsSomeAnd (position_of top.position top.seq seq) IsFar)
    (λ top. decided_both (top.ssrc ≡ ssrc) (IsSomeAnd (position_of top.position top.seq seq) IsFar) (cases_eq top.ssrc ssrc)
    (decided_and (position_of top.position top.seq seq) IsFar (λ position. decided_most (desk.mark + desk.playout.depth) position)))

-- What a run needs of a desk.
record IsReady (desk : State) : Type 0 where
  orderly : IsOrderly desk
  window : 1 ≤ desk.playout.window

-- A datagram of this sequence number lies less than this far past the mark.
abbrev LiesWithin : ℕ → State → ℕ → Type 0
LiesWithin distance desk seq =
    (top : Top) (position : ℕ) → desk.top ≡ Some top → position_of top.position top.seq seq ≡ Some position
    → position < desk.mark + distance

distance_of : (desk : State) (seq : ℕ) → (distance : ℕ) × LiesWithin distance desk seq
distance_of desk seq = ⊎_elim
    (λ none. (0, λ top position is at. absurd (none-some top (sym none ∙ is))))
    (λ t. ⊎_elim
    (λ none. (
      0,
      λ top position is at.
          let same : t.0 ≡ top = same_Some t.0 top (sym t.1 ∙ is) in
          let before : position_of t.0.position t.0.seq seq ≡ Some position =
          ap (λ (u : Top). position_of u.position u.seq seq) same ∙ at in
          absurd (none-some position (sym none ∙ before)),
    ))
    (λ p. (
      p.0 + 1,
      λ top position is at.
          let same : t.0 ≡ top = same_Some t.0 top (sym t.1 ∙ is) in
          let before : position_of t.0.position t.0.seq seq ≡ Some position =
          ap (λ (u : Top). position_of u.position u.seq seq) same ∙ at in
          let here : p.0 ≡ position = same_Some p.0 position (sym p.1 ∙ before) in
          omega (arith, here),
    ))
    (none_or_some (position_of t.0.position t.0.seq seq)))
    (none_or_some desk.top)

not_due_within : (desk : State) (seq ssrc : ℕ) → LiesWithin 0 desk seq → ¬ IsDue desk seq ssrc
not_due_within desk seq ssrc within due =
    let top = some_and desk.top _ due in
    let position = some_and (position_of top.0.position top.0.seq seq) _ top.2.1 in
    let less = within top.0 position.0 top.1 position.1 in
    let far = position.2 in
    omega (arith, less, far)

-- The plays that are due, and the desk that they leave.
record Due (old : State) (seq ssrc : ℕ) : Type 0 where
  plays : List Play
  new : State
  are_due : ArePlaysDue old seq ssrc plays new
  ready : IsReady new

-- What a datagram does.
record TakenThen (old : State) (arrival : Arrival) : Type 0 where
  plays : List Play
  reply : Option Reply
  new : State
  takes : TakesThen old arrival plays reply new
  ready : IsReady new

record Taken (old : State) (arrival : Arrival) : Type 0 where
  plays : List Play
  reply : Option Reply
  new : State
  takes : Takes old arrival plays reply new
  ready : IsReady new

-- Held plays until none is defined, and what is played since words have waited for too long.
record HeldFor (old : State) (time : ℕ) : Type 0 where
  plays : List Play
  new : State
  held : AreHeldPlays old time plays new
  ready : IsReady new

record Held (old : State) (time : ℕ) : Type 0 where
  plays : List Play
  new : State
  held : ArePlaysHeld old time plays new
  ready : IsReady new

record AllTaken (old : State) (arrivals : List Arrival) : Type 0 where
  plays : List Play
  replies : List (Option Reply)
  new : State
  takes : TakesAll old arrivals plays replies new
  ready : IsReady new

-- A flush, and the desk that it leaves.
record Flushed (old : State) : Type 0 where
  plays : List Play
  new : State
  flush : IsFlush old plays new
  ready : IsReady new

-- What is played before a media datagram.
record Before (old : State) (seq ssrc : ℕ) : Type 0 where
  plays : List Play
  new : State
  before : ArePlaysBefore old seq ssrc plays new
  ready : IsReady new

none_due : (old : State) (seq ssrc : ℕ) → IsReady old → ¬ IsDue old seq ssrc → Due old seq ssrc
none_due old seq ssrc ready none = record { plays = []; new = old; are_due = (none, refl); ready = ready }

ready_after_play : (count : ℕ) (old : State) (play : Play) (new : State) → IsPlay count old play new → IsReady old → IsReady new
ready_after_play count old play new plays ready =
    let some = ready.window in
    let same : new.playout.window ≡ old.playout.window = ap (λ (s : State). s.playout.window) plays.rest in
    record { orderly = orderly_after_play count old play new plays ready.orderly; window = omega (arith, some, same) }

module _ (laws : PeelingLaws) where
  due_exist : (distance : ℕ) (old : State) (seq ssrc : ℕ) → IsReady old → LiesWithin distance old seq → Due old seq ssrc
  due_exist zero old seq ssrc ready within = none_due old seq ssrc ready (not_due_within old seq ssrc within)
  due_exist (suc distance) old seq ssrc ready within = ⊎_elim
      (λ due.
      let o = play_outcomes laws old ready.orderly old.playout.window in
      let some = ready.window in
      let mark : o.new.mark ≡ old.mark + old.playout.window = o.plays.mark in
      let rest = due_exist distance o.new seq ssrc (ready_after_play old.playout.window old o.play o.new o.plays ready)
      (λ top position is at.
      let less = within top position (sym (ap (λ (s : State). s.top) o.plays.rest) ∙ is) at in
      omega (arith, less, mark, some)) in
      record {
        plays = o.play ∷ rest.plays;
        new = rest.new;
        are_due = (due, (o.new, o.plays, rest.are_due));
        ready = rest.ready;
      })
      (λ none. none_due old seq ssrc ready none)
      (decided_due old seq ssrc)

  due_of : (old : State) (seq ssrc : ℕ) → IsReady old → Due old seq ssrc
  due_of old seq ssrc ready = let d = distance_of old seq in due_exist d.0 old seq ssrc ready d.1

  flush_exist :
      (left : ℕ) (old : State) → IsReady old → ((position : ℕ) → InClosure old position → position < old.mark + left) → Flushed old
  flush_exist zero old ready inside = record {
    plays = [];
    new = old;
    flush = (λ more. (let less = inside more.0 more.1 in let least = more.2 in omega (arith, less, least)), refl);
    ready = ready;
  }
  flush_exist (suc left) old ready inside = ⊎_elim
      (λ s.
      let step = s.step in
      let count : ℕ = min old.playout.window (step.highest + 1 - old.mark) in
      let some = ready.window in
      let more : old.mark ≤ step.highest = step.more in
      let mark : s.new.mark ≡ old.mark + min old.playout.window (step.highest + 1 - old.mark) = step.plays.mark in
      let rest = flush_exist left s.new (ready_after_play count old s.play s.new step.plays ready)
      (λ p follows.
      let less = inside p (followed_before count old s.play s.new step.plays p follows) in
      omega (arith, less, mark, some, more)) in
      record { plays = s.play ∷ rest.plays; new = rest.new; flush = (s.new, step, rest.flush); ready = rest.ready })
      (λ none. record { plays = []; new = old; flush = (none, refl); ready = ready })
      (more_or_none laws old ready.orderly)

  flushed : (old : State) → IsReady old → Flushed old
  flushed old ready =
      let limit = closure_limit old in
      flush_exist limit.0 old ready (λ p follows. (let less = limit.1 p follows in omega (arith, less)))

  ready_counted : (old : State) → IsReady old → IsReady (counted old)
  ready_counted old ready = record { orderly = orderly_counted old ready.orderly; window = ready.window }

  ready_told : (old : State) (time : ℕ) → IsReady old → IsReady (at_time old time)
  ready_told old time ready = record { orderly = at_time_orderly old time ready.orderly; window = ready.window }

  ready_at_time : (old : State) (time : ℕ) → IsReady old → IsReady (counted (at_time old time))
  ready_at_time old time ready = ready_counted (at_time old time) (ready_told old time ready)

  before_of : (old : State) (seq ssrc : ℕ) → IsReady old → Before old seq ssrc
  before_of old seq ssrc ready = ⊎_elim
      (λ fresh.
      let f = flushed old ready in
      record {
        plays = f.plays;
        new = counted f.new;
        before = by_flush f.new fresh f.flush refl;
        ready = ready_counted f.new f.ready;
      })
      (λ stale.
      let due = due_of old seq ssrc ready in
      record { plays = due.plays; new = due.new; before = by_due stale due.are_due; ready = due.ready })
      (fresh_is_decided old ssrc)

  held_exist :
      (left : ℕ) (old : State) (time : ℕ) → IsReady old
      → ((position : ℕ) → IsHeld (at_time old time) position → position < old.mark + left) → HeldFor old time
  held_exist zero old time ready inside = record {
    plays = [];
    new = counted (at_time old time);
    held = (λ p held. (let less = inside p held in let least = held.1 in omega (arith, less, least)), refl);
    ready = ready_at_time old time ready;
  }
  held_exist (suc left) old time ready inside = ⊎_elim
      (λ s.
      let step = s.held in
      let count : ℕ = min old.playout.window (step.greatest + 1 - old.mark) in
      let some = ready.window in
      let ahead : old.mark ≤ step.greatest = step.greatest_is.inside.1 in
      let mark : s.new.mark ≡ old.mark + min old.playout.window (step.greatest + 1 - old.mark) = step.plays.mark in
      let rest = held_exist left s.new time (ready_after_play count (at_time old time) s.play s.new step.plays (ready_told old time ready))
      (λ p held.
      let less = inside p (held_before count old time s.play s.new step.plays p held) in
      omega (arith, less, mark, some, ahead)) in
      record { plays = s.play ∷ rest.plays; new = rest.new; held = (s.new, step, rest.held); ready = rest.ready })
      (λ none. record { plays = []; new = counted (at_time old time); held = (none, refl); ready = ready_at_time old time ready })
      (held_or_none laws (at_time old time) (at_time_orderly old time ready.orderly))

  held_of : (old : State) (time : ℕ) → IsReady old → Held old time
  held_of old time ready = ⊎_elim
      (λ none. record { plays = []; new = old; held = unlimited none refl refl; ready = ready })
      (λ some.
      let limit = held_limit (at_time old time) in
      let h = held_exist limit.0 old time ready (λ p held. (let less = limit.1 p held in omega (arith, less))) in
      record { plays = h.plays; new = h.new; held = limited some h.held; ready = h.ready })
      (cases_eq old.playout.hold 0)

  taken_then : (old : State) (arrival : Arrival) → IsReady old → IsRead arrival → TakenThen old arrival
  taken_then old (carries time seq ssrc word) ready read =
      let due = before_of old seq ssrc ready in
      let o = media_outcome due.new seq ssrc word in
      let some = due.ready.window in
      let same = o.window in
      record {
        plays = due.plays;
        reply = Some o.reply;
        new = o.new;
        takes = (due.new, due.before, o.admits);
        ready = record {
          orderly = orderly_after_media due.new o.new seq ssrc word o.reply due.ready.orderly read.2 o.admits.after;
          window = omega (arith, some, same);
        };
      }
  taken_then old (protects time stream parity) ready read =
      let o = parity_outcome old parity in
      let some = ready.window in
      let same = o.window in
      record {
        plays = [];
        reply = Some o.reply;
        new = o.new;
        takes = (refl, o.admits);
        ready = record {
          orderly = orderly_after_parity old o.new parity o.reply ready.orderly read.1.some_offset o.admits.reply_is o.admits.after;
          window = omega (arith, some, same);
        };
      }
  taken_then old (refused time stream) ready read =
      record { plays = []; reply = None; new = old; takes = (refl, refl); ready = ready }

  taken : (old : State) (arrival : Arrival) → IsReady old → IsRead arrival → Taken old arrival
  taken old arrival ready read =
      let h = held_of old (time_of arrival) ready in
      let t = taken_then h.new arrival h.ready read in
      record {
        plays = h.plays ++ t.plays;
        reply = t.reply;
        new = t.new;
        takes = record { held = h.plays; after = t.plays; ready = h.new; plays_are = refl; holds = h.held; takes = t.takes };
        ready = t.ready;
      }

  all_taken : (old : State) (arrivals : List Arrival) → IsReady old → All IsRead arrivals → AllTaken old arrivals
  all_taken old [] ready read = record { plays = []; replies = []; new = old; takes = (refl, refl, refl); ready = ready }
  all_taken old (arrival ∷ arrivals) ready read =
      let first = taken old arrival ready (All-head IsRead arrival arrivals read) in
      let rest = all_taken first.new arrivals first.ready (All-tail IsRead arrival arrivals read) in
      record {
        plays = first.plays ++ rest.plays;
        replies = first.reply ∷ rest.replies;
        new = rest.new;
        takes = (first.plays, rest.plays, first.new, refl, first.takes, rest.takes);
        ready = rest.ready;
      }

  ready_from_holds : (desk : State) → Holds desk → IsReady desk
  ready_from_holds desk holds = record { orderly = orderly_from_holds desk holds; window = holds.window.0 }

  ready_opening : (playout : Playout) → 1 ≤ playout.window → IsReady (opening playout)
  ready_opening playout some = record { orderly = orderly_opening playout; window = some }

  pub plays_due_exist : PlaysDueExist
  plays_due_exist old seq ssrc holds =
      let due = due_of old seq ssrc (ready_from_holds old holds) in (due.plays, due.new, due.are_due)

  pub plays_before_exist : PlaysBeforeExist
  plays_before_exist old seq ssrc holds =
      let b = before_of old seq ssrc (ready_from_holds old holds) in (b.plays, b.new, b.before)

  pub plays_held_exist : PlaysHeldExist
  plays_held_exist old time holds =
      let h = held_of old time (ready_from_holds old holds) in (h.plays, h.new, h.held)

  pub flush_exists : FlushExists
  flush_exists old holds = let f = flushed old (ready_from_holds old holds) in (f.plays, f.new, f.flush)

  pub takings_exist : TakingsExist
  takings_exist playout arrivals some read =
      let all = all_taken (opening playout) arrivals (ready_opening playout some) read in
      (all.plays, all.replies, all.new, all.takes)

  pub runs_exist : RunsExist
  runs_exist playout arrivals some read =
      let all = all_taken (opening playout) arrivals (ready_opening playout some) read in
      let f = flushed all.new all.ready in (
        all.plays ++ f.plays,
        all.replies,
        record {
          taken = all.plays;
          flushed = f.plays;
          filled = all.new;
          empty = f.new;
          takes = all.takes;
          flush = f.flush;
          plays_are = refl;
        },
      )
