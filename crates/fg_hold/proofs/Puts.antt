-- A word comes.
use Rattle.std.proofs.Common.{◌≡◌, ◌≢◌, ◌⊎◌, ℕ, ◌+◌, ◌-◌, ◌<◌, ◌≤◌, List, Some, None, sym, ap, subst, ◌∙◌, ⊎_elim, inl, inr, arith}
use Rattle.std.proofs.lemmas.Bool.{cases_lt, cases_eq}
use Rattle.std.specs.FinMap.{get, insert}
use Rattle.fg_peel.proofs.Maps.{inserted, beside_inserted}
use Rattle.fg_hold.specs.HasWaited.{Times, HasWaited}
use Rattle.fg_hold.specs.Ring.{ring_at}
use Rattle.fg_hold.specs.Waiting.{WaitingState, Waits, IsQueued, since, high}
use Rattle.fg_hold.proofs.Queue.{still_waited, waited_since, spread}

-- What waits once a word came, waited before or is that word.
now_waits : (times : Times) (position clock other time : ℕ) → get (insert times position clock) other ≡ Some time →
    ((other ≡ position) × (time ≡ clock)) ⊎ ((other ≢ position) × (get times other ≡ Some time))
now_waits times position clock other time is = ⊎_elim
    (λ (same : other ≡ position).
    let value : Some time ≡ Some clock = sym is ∙ inserted times position clock other same in
    inl (same, cc))
    (λ (apart : other ≢ position). inr (apart, sym (beside_inserted times position clock other apart) ∙ is))
    (cases_eq other position)

module _ (w : WaitingState) (mark position : ℕ) (times : Times)
    (h : Waits w mark times) (at : mark ≤ position) (near : position < mark + 1000) (none : get times position ≡ None) where
  -- It comes apart from all that wait.
  apart_from : (other time : ℕ) → get times other ≡ Some time → other ≢ position
  apart_from other time is same =
      let there : get times other ≡ get times position = ap (λ (p : ℕ). get times p) same in
      absurd (let both : Some time ≡ None = sym is ∙ there ∙ none in cc)

  near_to : (other time : ℕ) → get times other ≡ Some time → (other < position + 1024) × (position < other + 1024)
  near_to other time is =
      let word = h.words.word other time is in
      let from = word.from_mark in
      let below = word.in_window in
      (omega arith, omega arith)

  high_is : (number : ℕ) → IsQueued w number → get times (high w number) ≡ Some (since w (high w number))
  high_is number queued = h.words.high_waits number queued (h.from_mark number queued)

  held_still : mark < w.held_end → HasWaited w.hold w.clock (insert times position w.clock) (w.held_end - 1)
  held_still past =
      let waited = h.words.held past in
      let s = waited_since w.hold w.clock times (w.held_end - 1) waited in
      still_waited w.hold w.clock w.clock times (insert times position w.clock) (w.held_end - 1) (omega arith)
      (beside_inserted times position w.clock (w.held_end - 1) (apart_from (w.held_end - 1) s.0 s.1)) waited

  -- All that has left the queue lies below it, where it is a high.
  past_held : w.high_end ≤ position → w.held_end ≤ position
  past_held past = ⊎_elim
      (λ (more : mark < w.held_end).
      let s = waited_since w.hold w.clock times (w.held_end - 1) (h.words.held more) in
      let below = (h.words.word (w.held_end - 1) s.0 s.1).below_end in
      omega arith)
      (λ (le : w.held_end ≤ mark). omega arith)
      (cases_lt mark w.held_end)

  -- There is room for one more high.
  room_for_high : w.high_end ≤ position → (number : ℕ) → IsQueued w number → w.next ≤ number + 1000
  room_for_high past number queued =
      let from = queued.0 in
      let below = queued.1 in
      let oldest : IsQueued w w.first = (omega arith, omega arith) in
      let newest : IsQueued w (w.next - 1) = (omega arith, omega arith) in
      let far : high w w.first + (w.next - 1 - w.first) ≤ high w (w.next - 1) =
      spread w mark times h.words (w.next - 1 - w.first) (w.next - 1) (omega arith) newest in
      let least : mark ≤ high w w.first = h.from_mark w.first oldest in
      let most = (h.words.word (high w (w.next - 1)) _ (high_is (w.next - 1) newest)).in_window in
      omega arith

  module _ (came : List ℕ) (here : ring_at came position ≡ w.clock)
      (others : (other : ℕ) → other ≢ position → other < position + 1024 → position < other + 1024
      → ring_at came other ≡ since w other) where
    stays : (other time : ℕ) → get times other ≡ Some time → ring_at came other ≡ since w other
    stays other time is = others other (apart_from other time is) (near_to other time is).0 (near_to other time is).1

    high_stays : (number : ℕ) → IsQueued w number → ring_at came (high w number) ≡ since w (high w number)
    high_stays number queued = stays (high w number) (since w (high w number)) (high_is number queued)

    -- A queued high came no later than now.
    high_came : (number : ℕ) → IsQueued w number → since w (high w number) ≤ w.clock
    high_came number queued = (h.words.word (high w number) (since w (high w number)) (high_is number queued)).before_clock

    high_still : (number : ℕ) → IsQueued w number →
        get (insert times position w.clock) (high w number) ≡ Some (ring_at came (high w number))
    high_still number queued =
        beside_inserted times position w.clock (high w number)
        (apart_from (high w number) (since w (high w number)) (high_is number queued))
        ∙ high_is number queued ∙ ap Some (sym (high_stays number queued))

    -- The word comes below a high, which has waited longer.
    pub put_below : position < w.high_end → Waits (record w { came = came }) mark (insert times position w.clock)
    put_below below = record {
      words = record {
        word = λ other time is. ⊎_elim
            (λ new. record {
              from_mark = let e = new.0 in omega arith;
              in_window = let e = new.0 in omega arith;
              before_clock = let e = new.1 in omega arith;
              since_is = ap (λ (p : ℕ). ring_at came p) new.0 ∙ here ∙ sym new.1;
              below_end = let e = new.0 in omega arith;
              covered = ⊎_elim
                  (λ (some : w.first < w.next).
                  let newest : IsQueued w (w.next - 1) = (omega arith, omega arith) in
                  let last : high w (w.next - 1) + 1 ≡ w.high_end = h.words.newest some in
                  let same = new.0 in
                  let now = new.1 in
                  let stayed = high_stays (w.next - 1) newest in
                  let sooner = high_came (w.next - 1) newest in
                  inr (record { number = w.next - 1; queued = newest; past = omega arith; sooner = omega arith }))
                  (λ (empty : w.next ≤ w.first).
                  let all : w.held_end ≡ w.high_end = h.words.all_held empty (omega arith) in
                  let same = new.0 in
                  inl (omega arith))
                  (cases_lt w.first w.next);
            })
            (λ old.
            let word = h.words.word other time old.1 in record {
              from_mark = word.from_mark;
              in_window = word.in_window;
              before_clock = word.before_clock;
              since_is = stays other time old.1 ∙ word.since_is;
              below_end = word.below_end;
              covered = ⊎_elim (λ left. inl left)
                  (λ outwaited. inr (record {
                    number = outwaited.number;
                    queued = outwaited.queued;
                    past = outwaited.past;
                    sooner =
                        (let stayed = high_stays outwaited.number outwaited.queued in
                        let sooner = outwaited.sooner in
                        omega arith);
                  }))
                  word.covered;
            })
            (now_waits times position w.clock other time is);
        high_waits = λ number queued from. high_still number queued;
        rising = h.words.rising;
        later = λ number other queued queued' less.
            let one = high_stays number queued in
            let two = high_stays other queued' in
            let le = h.words.later number other queued queued' less in
            omega arith;
        unheld = h.words.unheld;
        newest = h.words.newest;
        all_held = h.words.all_held;
        held = held_still;
        not_before = λ number queued.
            let stayed = high_stays number queued in
            let bound = h.words.not_before number queued in
            omega arith;
        not_before_now = h.words.not_before_now;
      };
      from_mark = h.from_mark;
    }

    module _ (highs : List ℕ) (order : w.first ≤ w.next) (past : w.high_end ≤ position)
        (queued_here : ring_at highs w.next ≡ position)
        (queued_others : (other : ℕ) → other ≢ w.next → other < w.next + 1024 → w.next < other + 1024
        → ring_at highs other ≡ high w other) where
      abbrev after : WaitingState
      after = record w { came = came; highs = highs; next = w.next + 1; high_end = position + 1 }

      same_high : (number : ℕ) → IsQueued w number → ring_at highs number ≡ high w number
      same_high number queued =
          let room = room_for_high past number queued in
          let below = queued.1 in
          queued_others number (omega arith) (omega arith) (omega arith)

      same_since : (number : ℕ) → IsQueued w number → ring_at came (ring_at highs number) ≡ since w (high w number)
      same_since number queued = ap (λ (p : ℕ). ring_at came p) (same_high number queued) ∙ high_stays number queued

      new_since : ring_at came (ring_at highs w.next) ≡ w.clock
      new_since = ap (λ (p : ℕ). ring_at came p) queued_here ∙ here

      -- A queued high is the new one, or was queued before.
      was_queued : (number : ℕ) → IsQueued after number → (number ≡ w.next) ⊎ IsQueued w number
      was_queued number queued = ⊎_elim
          (λ (same : number ≡ w.next). inl same)
          (λ (apart : number ≢ w.next). let from = queued.0 in let below = queued.1 in inr (from, omega arith))
          (cases_eq number w.next)

      high_below : (number : ℕ) → IsQueued w number → high w number < position
      high_below number queued =
          let below = (h.words.word (high w number) (since w (high w number)) (high_is number queued)).below_end in
          omega arith

      high_now : (number : ℕ) → IsQueued after number → (mark ≤ ring_at highs number) × (w.held_end ≤ ring_at highs number)
          × (get (insert times position w.clock) (ring_at highs number) ≡ Some (ring_at came (ring_at highs number)))
      high_now number queued = ⊎_elim
          (λ (same : number ≡ w.next).
          let there : ring_at highs number ≡ position = ap (λ (n : ℕ). ring_at highs n) same ∙ queued_here in
          let held = past_held past in (
            omega arith,
            omega arith,
            inserted times position w.clock (ring_at highs number) there
                ∙ ap Some (sym (ap (λ (p : ℕ). ring_at came p) there ∙ here)),
          ))
          (λ old.
          let there = same_high number old in
          let from = h.from_mark number old in
          let unheld = h.words.unheld number old in (
            omega arith,
            omega arith,
            subst (λ (p : ℕ). get (insert times position w.clock) p ≡ Some (ring_at came p)) (sym there) (high_still number old),
          ))
          (was_queued number queued)

      highs_rise : (number other : ℕ) → IsQueued after number → IsQueued after other → number < other →
          (ring_at highs number < ring_at highs other) × (ring_at came (ring_at highs number) ≤ ring_at came (ring_at highs other))
      highs_rise number other queued queued' less =
          let a = queued.0 in
          let b = queued'.1 in
          let old : IsQueued w number = (omega arith, omega arith) in
          let there = same_high number old in
          let came_there = same_since number old in
          ⊎_elim
          (λ (same : other ≡ w.next).
          let new : ring_at highs other ≡ position = ap (λ (n : ℕ). ring_at highs n) same ∙ queued_here in
          let now : ring_at came (ring_at highs other) ≡ w.clock = ap (λ (p : ℕ). ring_at came p) new ∙ here in
          let below = high_below number old in
          let sooner = high_came number old in
          (omega arith, omega arith))
          (λ old'.
          let there' = same_high other old' in
          let came_there' = same_since other old' in
          let up = h.words.rising number other old old' less in
          let on = h.words.later number other old old' less in
          (omega arith, omega arith))
          (was_queued other queued')

      -- The word comes past all others, and is a high.
      pub put_high : Waits after mark (insert times position w.clock)
      put_high = record {
        words = record {
          word = λ other time is. ⊎_elim
              (λ new.
              let same = new.0 in
              let now = new.1 in record {
                from_mark = omega arith;
                in_window = omega arith;
                before_clock = omega arith;
                since_is = ap (λ (p : ℕ). ring_at came p) same ∙ here ∙ sym now;
                below_end = omega arith;
                covered = let last = new_since in
                    inr (record { number = w.next; queued = (order, omega arith); past = omega arith; sooner = omega arith });
              })
              (λ old.
              let word = h.words.word other time old.1 in record {
                from_mark = word.from_mark;
                in_window = word.in_window;
                before_clock = word.before_clock;
                since_is = stays other time old.1 ∙ word.since_is;
                below_end = (let below = word.below_end in omega arith);
                covered = ⊎_elim (λ left. inl left)
                    (λ outwaited.
                    let q = outwaited.queued in
                    let below = q.1 in
                    let there = same_high outwaited.number q in
                    let came_there = same_since outwaited.number q in
                    let farther = outwaited.past in
                    let sooner = outwaited.sooner in
                    inr (record {
                      number = outwaited.number;
                      queued = (q.0, omega arith);
                      past = omega arith;
                      sooner = omega arith;
                    }))
                    word.covered;
              })
              (now_waits times position w.clock other time is);
          high_waits = λ number queued from. (high_now number queued).2;
          rising = λ number other queued queued' less. (highs_rise number other queued queued' less).0;
          later = λ number other queued queued' less. (highs_rise number other queued queued' less).1;
          unheld = λ number queued. (high_now number queued).1;
          newest = λ some.
              let last : w.next + 1 - 1 ≡ w.next = omega arith in
              ap (λ (n : ℕ). ring_at highs n + 1) last ∙ ap (λ (p : ℕ). p + 1) queued_here;
          all_held = λ empty below. absurd (omega arith);
          held = held_still;
          not_before = λ number queued. ⊎_elim
              (λ (same : number ≡ w.next).
              let there : ring_at came (ring_at highs number) ≡ ring_at came (ring_at highs w.next)
              = ap (λ (n : ℕ). ring_at came (ring_at highs n)) same in
              let now = new_since in
              let bound = h.words.not_before_now in
              omega arith)
              (λ old.
              let same = same_since number old in
              let bound = h.words.not_before number old in
              omega arith)
              (was_queued number queued);
          not_before_now = h.words.not_before_now;
        };
        from_mark = λ number queued. (high_now number queued).0;
      }
