-- Held steps keep the facts, and each call of one has one outcome.
use Rattle.std.proofs.Common.{◌≡◌, ◌≢◌, ◌⊎◌, ◌+◌, ◌-◌, ◌<◌, ◌≤◌, ℕ, zero, suc, Bool, true, false, cond, ltb, min, max, is_some, true≢false, Option, Some, None, IsSomeAnd, inl, inr, refl, sym, ap, subst, ◌∙◌, ⊎_elim, arith}
use Rattle.std.specs.Ordering.{nat_cmp}
use Rattle.std.specs.FinMap.{get, empty, get-empty}
use Rattle.fg_peel.specs.Laws.{Uniqueness}
use Rattle.std.proofs.lemmas.Option.{none-some}
use Rattle.fg_peel.proofs.Options.{some_and, some_and_from}
use Rattle.fg_playout.specs.State.{State, Words}
use Rattle.fg_playout.specs.Admission.{counted}
use Rattle.fg_playout.specs.Play.{Play, IsPlay}
use Rattle.fg_playout.specs.Held.{at_time, IsHeld, IsGreatest, IsHeldPlay, PlaysHeld}
use Rattle.fg_playout.specs.Facts.{Holds}
use Rattle.fg_playout.specs.Existence.{PeelingLaws, HeldStepHasOutcome}
use Rattle.fg_playout.specs.Laws.{HeldStepKeeps, HeldStepIsOne, HeldStepsShowOneList}
use Rattle.fg_playout.proofs.Decided.{IsDecided, decided_both, decided_as, decided_most, greatest_or_none}
use Rattle.fg_playout.proofs.MadeMaps.{keys_limit}
use Rattle.fg_playout.proofs.Opened.{counted_holds}
use Rattle.fg_playout.proofs.Orderly.{IsOrderly, orderly_from_holds}
use Rattle.fg_playout.proofs.OnePlay.{one_play, one_state_after}
use Rattle.fg_playout.proofs.PlayKeeps.{play_holds}
use Rattle.fg_playout.proofs.PlayOutcomes.{play_outcomes}

pub at_time_holds : (old : State) (time : ℕ) → Holds old → Holds (at_time old time)
at_time_holds old time holds = record {
  window = holds.window;
  depth = holds.depth;
  kept = holds.kept;
  media = λ p w is. (let k = holds.media p w is in record { media = k.media; ahead = k.ahead; near = k.near });
  timed = holds.timed;
  clocked = λ p t is. (let c = holds.clocked p t is in omega (arith, c));
  live = holds.live;
  apart = holds.apart;
  origin = holds.origin;
  based = holds.based;
  unopened = holds.unopened;
  opened = holds.opened;
  senders = holds.senders;
}

-- A position that is held has a received word.
pub held_is_received : (desk : State) (position : ℕ) → Holds desk → IsHeld desk position → get desk.media position ≢ None
held_is_received desk position holds held none =
    let t = some_and (get desk.times position) (λ time. time + desk.playout.hold ≤ desk.clock) held.2 in
    true≢false (sym (ap is_some t.1) ∙ holds.timed position ∙ ap is_some none)

held_play_holds : (old new : State) (play : Play) → Holds old → IsHeldPlay old play new → Holds new
held_play_holds old new play holds held = play_holds (min old.playout.window (held.greatest + 1 - old.mark)) old play new held.plays holds
    (λ none.
    let u = holds.unopened none in
    held_is_received old held.greatest holds held.greatest_is.inside (nothing_there (u.1)))
  where
    nothing_there : old.media ≡ empty → get old.media held.greatest ≡ None
    nothing_there is = ap (λ (m : Words). get m held.greatest) is ∙ get-empty nat_cmp held.greatest

pub held_step_keeps : HeldStepKeeps
held_step_keeps old new time None holds step = subst Holds (sym step.1) (counted_holds (at_time old time) (at_time_holds old time holds))
held_step_keeps old new time (Some play) holds step = held_play_holds (at_time old time) new play (at_time_holds old time holds) step

pub at_time_orderly : (old : State) (time : ℕ) → IsOrderly old → IsOrderly (at_time old time)
at_time_orderly old time orderly = record {
  kept = orderly.kept;
  media = orderly.media;
  some_offset = orderly.some_offset;
  based = orderly.based;
  apart = orderly.apart;
}

-- There is one greatest position that is held, so there is one held play.
module _
    (unique : Uniqueness) (old : State) (orderly : IsOrderly old) (play play' : Play) (new new' : State)
    (a : IsHeldPlay old play new) (b : IsHeldPlay old play' new') where
  same_greatest : b.greatest ≡ a.greatest
  same_greatest =
      let here = a.greatest_is.greatest b.greatest b.greatest_is.inside in
      let there = b.greatest_is.greatest a.greatest a.greatest_is.inside in
      omega (arith, here, there)

  same_plays : IsPlay (min old.playout.window (a.greatest + 1 - old.mark)) old play' new'
  same_plays = subst (λ (g : ℕ). IsPlay (min old.playout.window (g + 1 - old.mark)) old play' new') same_greatest b.plays

  pub one_held_play : play ≡ play'
  one_held_play =
      one_play unique (min old.playout.window (a.greatest + 1 - old.mark)) old orderly play play' new new' a.plays same_plays

  pub one_state_after_held : new ≡ new'
  one_state_after_held =
      one_state_after unique (min old.playout.window (a.greatest + 1 - old.mark)) old orderly play play' new new' a.plays same_plays

pub plays_held_is_one :
    (unique : Uniqueness) (old one other : State) (play play' : Option Play) → IsOrderly old
    → PlaysHeld old play one → PlaysHeld old play' other → (play ≡ play') × (one ≡ other)
plays_held_is_one unique old one other None None orderly a b = (refl, a.1 ∙ sym b.1)
plays_held_is_one unique old one other None (Some play') orderly a b = absurd (a.0 b.greatest b.greatest_is.inside)
plays_held_is_one unique old one other (Some play) None orderly a b = absurd (b.0 a.greatest a.greatest_is.inside)
plays_held_is_one unique old one other (Some play) (Some play') orderly a b = (
  ap Some (one_held_play unique old orderly play play' one other a b),
  one_state_after_held unique old orderly play play' one other a b,
)

pub held_step_is_one : Uniqueness → HeldStepIsOne
held_step_is_one unique old one other time play play' holds a b =
    plays_held_is_one unique (at_time old time) one other play play' (orderly_from_holds (at_time old time) (at_time_holds old time holds)) a b

pub held_steps_show_one_list : Uniqueness → HeldStepsShowOneList
held_steps_show_one_list unique old one other time first first' shown shown' outcome outcome' holds a b =
    ap (λ (play : Play). play.shown) (one_held_play unique (at_time old time) (orderly_from_holds (at_time old time) (at_time_holds old time holds))
    (record { first = first; shown = shown; outcome = outcome }) (record { first = first'; shown = shown'; outcome = outcome' })
    one other a b)

-- Whether a position is held can be told.
decided_there : (o : Option ℕ) (hold clock : ℕ) → IsDecided (IsSomeAnd o (λ time. time + hold ≤ clock))
decided_there None hold clock = inr (λ none. none)
decided_there (Some time) hold clock = decided_most (time + hold) clock

decided_nonzero : (n : ℕ) → IsDecided (n ≢ 0)
decided_nonzero zero = inr (λ no. no refl)
decided_nonzero (suc n) = inl (λ none. omega (arith, none))

decided_held : (desk : State) (position : ℕ) → IsDecided (IsHeld desk position)
decided_held desk position =
    let Waited : Type 0 = IsSomeAnd (get desk.times position) (λ time. time + desk.playout.hold ≤ desk.clock) in
    let Both : Type 0 = (desk.mark ≤ position) × Waited in
    decided_as ((desk.playout.hold ≢ 0) × Both) (IsHeld desk position)
    (λ h. (h.0, h.1.0, h.1.1)) (λ h. (h.0, (h.1, h.2)))
    (decided_both (desk.playout.hold ≢ 0) Both (decided_nonzero desk.playout.hold)
    (decided_both (desk.mark ≤ position) Waited (decided_most desk.mark position)
    (decided_there (get desk.times position) desk.playout.hold desk.clock)))

-- Held positions have times, so they lie below a limit.
pub held_limit : (desk : State) → (limit : ℕ) × ((position : ℕ) → IsHeld desk position → position < limit)
held_limit desk =
    let limit = keys_limit desk.times in
    (limit.0, λ n held. (let t = some_and (get desk.times n) (λ time. time + desk.playout.hold ≤ desk.clock) held.2 in limit.1 n t.0 t.1))

greatest_held : (desk : State) → ((n : ℕ) × IsGreatest (IsHeld desk) n) ⊎ ((n : ℕ) → IsHeld desk n → ⊥)
greatest_held desk =
    let limit = held_limit desk in greatest_or_none (IsHeld desk) (decided_held desk) limit.0 limit.1

-- A held play, where a position is held.
pub record HeldPlays (desk : State) : Type 0 where
  pub play : Play
  pub new : State
  pub held : IsHeldPlay desk play new

pub held_or_none : PeelingLaws → (desk : State) → IsOrderly desk → HeldPlays desk ⊎ ((position : ℕ) → IsHeld desk position → ⊥)
held_or_none laws desk orderly = ⊎_elim
    (λ g.
    let o = play_outcomes laws desk orderly (min desk.playout.window (g.0 + 1 - desk.mark)) in
    inl (record { play = o.play; new = o.new; held = record { greatest = g.0; greatest_is = g.1; plays = o.plays } }))
    (λ none. inr none)
    (greatest_held desk)

plays_held_has_outcome : PeelingLaws → (old : State) → Holds old → (play : Option Play) × (new : State) × PlaysHeld old play new
plays_held_has_outcome laws old holds = ⊎_elim
    (λ h. (Some h.play, h.new, h.held))
    (λ none. (None, counted old, (none, refl)))
    (held_or_none laws old (orderly_from_holds old holds))

pub held_step_has_outcome : PeelingLaws → HeldStepHasOutcome
held_step_has_outcome laws old time holds = plays_held_has_outcome laws (at_time old time) (at_time_holds old time holds)

-- What is held after a held play was held before it.
pub held_before :
    (count : ℕ) (old : State) (time : ℕ) (play : Play) (new : State) → IsPlay count (at_time old time) play new
    → (position : ℕ) → IsHeld (at_time new time) position → IsHeld (at_time old time) position
held_before count old time play new plays position held =
    let t = some_and (get new.times position) (λ t. t + new.playout.hold ≤ max new.clock time) held.2 in
    let same_hold : new.playout.hold ≡ old.playout.hold = ap (λ (s : State). s.playout.hold) plays.rest in
    let same_clock : new.clock ≡ max old.clock time = ap (λ (s : State). s.clock) plays.rest in
    let mark : new.mark ≡ old.mark + count = plays.mark in
    let ahead : new.mark ≤ position = held.1 in
    let late = t.2 in
    let was : get old.times position ≡ Some t.0 = left (ltb position new.mark) (sym (plays.times position) ∙ t.1) in (
      λ none. held.0 (same_hold ∙ none),
      omega (arith, ahead, mark),
      some_and_from (get old.times position) (λ t. t + old.playout.hold ≤ max old.clock time) t.0 was
          (omega (arith, late, same_hold, same_clock)),
    )
  where
    left : {time : ℕ} (b : Bool) → cond b None (get old.times position) ≡ Some time → get old.times position ≡ Some time
    left true none = absurd (none-some _ none)
    left false some = some
