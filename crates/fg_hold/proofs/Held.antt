-- Highs leave the queue that have waited long enough.
use Rattle.std.proofs.Common.{◌≡◌, ℕ, ◌+◌, ◌-◌, ◌<◌, ◌≤◌, min, Option, Some, None, IfSome, IfNone, refl, sym, ap, subst, ◌∙◌, ⊎_elim, inl, inr, arith}
use Rattle.std.proofs.lemmas.Bool.{cases_lt}
use Rattle.fg_peel.specs.Words.{IsGreatest}
use Rattle.fg_hold.specs.HasWaited.{Times, HasWaited}
use Rattle.fg_hold.specs.Waiting.{WaitingState, HasRoom, Waits, IsQueued, since, high}
use Rattle.fg_hold.specs.Steps.{OldestIsUnheld, TakesHeld, WillTake}
use Rattle.fg_hold.proofs.Clocks.{times_go_on, clock_goes_on}
use Rattle.fg_hold.proofs.Queue.{has_waited, waited_since, oldest_first}

-- The oldest high leaves.
pub oldest_held : (w : WaitingState) (end mark : ℕ) (times : Times) → Waits w mark times → w.first < w.next →
    since w (high w w.first) + w.hold ≤ w.clock → end ≡ high w w.first + 1 →
    Waits (record w { first = w.first + 1; held_end = end }) mark times
oldest_held w end mark times h some waited ends =
    let oldest : IsQueued w w.first = (omega arith, omega arith) in
    let before = h.words.unheld w.first oldest in
    record {
      words = record {
        word = λ position time is.
            let old = h.words.word position time is in record {
              from_mark = old.from_mark;
              in_window = old.in_window;
              before_clock = old.before_clock;
              since_is = old.since_is;
              below_end = old.below_end;
              covered = ⊎_elim
                  (λ (left : position < w.held_end). inl (omega arith))
                  (λ outwaited. ⊎_elim
                  (λ (past : w.first < outwaited.number). inr (record {
                    number = outwaited.number;
                    queued = (omega arith, outwaited.queued.1);
                    past = outwaited.past;
                    sooner = outwaited.sooner;
                  }))
                  (λ (up_to : outwaited.number ≤ w.first).
                  let from = outwaited.queued.0 in
                  let same : outwaited.number ≡ w.first = omega arith in
                  let there : high w outwaited.number ≡ high w w.first = ap (λ (n : ℕ). high w n) same in
                  let past = outwaited.past in
                  inl (omega arith))
                  (cases_lt w.first outwaited.number))
                  old.covered;
            };
        high_waits = λ number queued at. h.words.high_waits number (was_queued w number queued) at;
        rising = λ number other queued queued' less.
            h.words.rising number other (was_queued w number queued) (was_queued w other queued') less;
        later = λ number other queued queued' less.
            h.words.later number other (was_queued w number queued) (was_queued w other queued') less;
        unheld = λ number queued.
            let up = h.words.rising w.first number oldest (was_queued w number queued) (let q = queued.0 in omega arith) in
            omega arith;
        newest = λ more. h.words.newest some;
        all_held = λ none below.
            let one : w.next - 1 ≡ w.first = omega arith in
            let last : high w (w.next - 1) + 1 ≡ w.high_end = h.words.newest some in
            ends ∙ ap (λ (n : ℕ). high w n + 1) (sym one) ∙ last;
        held = λ past.
            let there : end - 1 ≡ high w w.first = omega arith in
            let is = h.words.high_waits w.first oldest (h.from_mark w.first oldest) in
            subst (λ (p : ℕ). HasWaited w.hold w.clock times p) (sym there)
            (has_waited w.hold w.clock times (high w w.first) (since w (high w w.first)) is waited);
        not_before = λ number queued. h.words.not_before number (was_queued w number queued);
        not_before_now = h.words.not_before_now;
      };
      from_mark = λ number queued. h.from_mark number (was_queued w number queued);
    }
  where
    was_queued : (w : WaitingState) (number : ℕ) → (w.first + 1 ≤ number) × (number < w.next) → IsQueued w number
    was_queued w number queued = (let q = queued.0 in omega arith, queued.1)

-- The greatest word that has waited long enough is the one below the held end, where the oldest in the queue hasn't.
waited_below : (w : WaitingState) (mark : ℕ) (times : Times) → Waits w mark times → OldestIsUnheld w → (position : ℕ) →
    HasWaited w.hold w.clock times position → (mark ≤ position) × (position < w.held_end)
waited_below w mark times h oldest position waited =
    let s = waited_since w.hold w.clock times position waited in
    let word = h.words.word position s.0 s.1 in
    let long = s.2 in (
      word.from_mark,
      ⊎_elim
          (λ left. left)
          (λ outwaited.
          let first = oldest_first w mark times h.words outwaited.number outwaited.queued in
          let sooner = outwaited.sooner in
          let queued = outwaited.queued in
          let short : w.clock < since w (high w w.first) + w.hold = oldest (let q = queued.0 in let r = queued.1 in omega arith) in
          absurd (omega arith))
          word.covered,
    )

pub greatest_held : (w : WaitingState) (mark : ℕ) (times : Times) → Waits w mark times → OldestIsUnheld w → mark < w.held_end →
    IsGreatest (HasWaited w.hold w.clock times) (w.held_end - 1)
greatest_held w mark times h oldest past = record {
  inside = h.words.held past;
  greatest = λ other waited. let below = (waited_below w mark times h oldest other waited).1 in omega arith;
}

pub none_held : (w : WaitingState) (mark : ℕ) (times : Times) → Waits w mark times → OldestIsUnheld w → w.held_end ≤ mark →
    (position : ℕ) → ¬ HasWaited w.hold w.clock times position
none_held w mark times h oldest none position waited =
    let is = waited_below w mark times h oldest position waited in
    let from = is.0 in
    let below = is.1 in
    omega arith

-- It leaves as the code has it leave: a high is far below 2^64, and came at a time of the clock.
pub takes_oldest : (w : WaitingState) (found time end : ℕ) → HasRoom w → w.first < w.next →
    found ≡ high w w.first → time ≡ since w found →
    w.hold ≤ w.clock - time → end ≡ min (found + 1) 18446744073709551615 →
    TakesHeld w (record w { first = w.first + 1; held_end = end })
takes_oldest w found time end room some here came waited ends = record {
  hold = refl;
  clock = refl;
  came = refl;
  waits = λ mark times h.
      let oldest : IsQueued w w.first = (omega arith, some) in
      let is = h.words.high_waits w.first oldest (h.from_mark w.first oldest) in
      let word = h.words.word (high w w.first) (since w (high w w.first)) is in
      let past = word.before_clock in
      let below = word.below_end in
      let limit : w.high_end ≤ 4611686018427387904 = room.limit in
      let came_then : time ≡ since w (high w w.first) = came ∙ ap (λ (p : ℕ). since w p) here in
      oldest_held w end mark times h some (omega arith) (omega arith);
}

-- It is noted from when on another one may have waited long enough.
pub notes_earliest : (w : WaitingState) (oldest time : ℕ) → (w.first < w.next → oldest ≡ since w (high w w.first)) →
    (w.next ≤ w.first → oldest ≡ w.clock) → time ≡ min (oldest + w.hold) 18446744073709551615 →
    TakesHeld w (record w { earliest_held = time })
notes_earliest w oldest time some none is = record {
  hold = refl;
  clock = refl;
  came = refl;
  waits = λ mark times h. times_go_on w w.clock time mark times (omega arith)
      (λ number queued.
      let first = oldest_first w mark times h.words number queued in
      let since_oldest = some (let q = queued.0 in let r = queued.1 in omega arith) in
      omega arith)
      (⊎_elim
      (λ (more : w.first < w.next).
      let queued : IsQueued w w.first = (omega arith, more) in
      let waits = h.words.high_waits w.first queued (h.from_mark w.first queued) in
      let before = (h.words.word (high w w.first) (since w (high w w.first)) waits).before_clock in
      let since_oldest = some more in
      omega arith)
      (λ (no_more : w.next ≤ w.first). let now = none no_more in omega arith)
      (cases_lt w.first w.next))
      h;
}

-- One after another is as one.
pub then_takes : (w w' w'' : WaitingState) → TakesHeld w w' → TakesHeld w' w'' → TakesHeld w w''
then_takes w w' w'' a b = record {
  hold = b.hold ∙ a.hold;
  clock = b.clock ∙ a.clock;
  came = b.came ∙ a.came;
  waits = λ mark times h. b.waits mark times (a.waits mark times h);
}

-- So it is what the code answers.
pub told_held : (w : WaitingState) (end mark : ℕ) (told : Option ℕ) (times : Times) →
    end ≡ w.held_end → told ≡ Some (end - 1) → mark < end → Waits w mark times → OldestIsUnheld w →
    IfSome told (IsGreatest (HasWaited w.hold w.clock times))
told_held w end mark told times ends is past h oldest =
    let that : end - 1 ≡ w.held_end - 1 = omega arith in
    subst (λ (r : Option ℕ). IfSome r (IsGreatest (HasWaited w.hold w.clock times))) (sym (is ∙ ap Some that))
    (greatest_held w mark times h oldest (omega arith))

pub told_none : (w : WaitingState) (end mark : ℕ) (told : Option ℕ) (times : Times) →
    end ≡ w.held_end → told ≡ None → end ≤ mark → Waits w mark times → OldestIsUnheld w →
    IfNone told ((position : ℕ) → ¬ HasWaited w.hold w.clock times position)
told_none w end mark told times ends is none h oldest =
    subst (λ (r : Option ℕ). IfNone r ((position : ℕ) → ¬ HasWaited w.hold w.clock times position)) (sym is)
    (none_held w mark times h oldest (omega arith))

-- Before the earliest time none will have left the queue.
pub takes_none : (w : WaitingState) (clock : ℕ) → clock < w.earliest_held → WillTake w clock w.held_end
takes_none w clock early = record {
  first = w.first;
  takes = record { hold = refl; clock = refl; came = refl; waits = λ mark times h. h };
  oldest = λ mark times h more. let oldest = h.words.not_before w.first (omega arith, more) in omega arith;
}

-- What will have waited long enough is told by what will have left the queue.
module _
    (w : WaitingState) (clock end mark : ℕ) (times : Times) (on : w.clock ≤ clock) (will : WillTake w clock end)
    (h : Waits w mark times) where
  waits_then : Waits (record w { clock = clock; first = will.first; held_end = end }) mark times
  waits_then = will.takes.waits mark times (clock_goes_on w clock mark times on h)

  pub will_be_held : mark < end → IsGreatest (HasWaited w.hold clock times) (end - 1)
  will_be_held past =
      greatest_held (record w { clock = clock; first = will.first; held_end = end }) mark times waits_then
      (will.oldest mark times waits_then) past

  pub none_will_be_held : end ≤ mark → (position : ℕ) → ¬ HasWaited w.hold clock times position
  none_will_be_held none =
      none_held (record w { clock = clock; first = will.first; held_end = end }) mark times waits_then
      (will.oldest mark times waits_then) none
