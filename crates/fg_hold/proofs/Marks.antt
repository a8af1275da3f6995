-- The mark moves on.
use Rattle.std.proofs.Common.{◌≡◌, ℕ, ◌+◌, ◌-◌, ◌<◌, ◌≤◌, min, Option, Some, None, Bool, true, false, nat_lt, if◌then◌else◌, refl, sym, ap, ◌∙◌, ⊎_elim, inl, inr, arith}
use Rattle.std.proofs.lemmas.Bool.{cases_lt}
use Rattle.std.specs.FinMap.{get}
use Rattle.fg_hold.specs.HasWaited.{Times}
use Rattle.fg_hold.specs.Waiting.{WaitingState, Waits, Remembers, IsQueued, AreFrom, high}
use Rattle.fg_hold.specs.Steps.{AreBelow, AreNotBelow}
use Rattle.fg_hold.proofs.Queue.{still_waited, spread}

-- What is left at a position, by whether it is below the mark.
below_left : (below : Bool) (o : Option ℕ) (time : ℕ) → (if below then None else o) ≡ Some time → (below ≡ false) × (o ≡ Some time)
below_left true o time is = absurd (cc)
below_left false o time is = (refl, is)

left_was : (mark : ℕ) (times left : Times) → AreFrom mark times left → (position time : ℕ) → get left position ≡ Some time →
    (mark ≤ position) × (get times position ≡ Some time)
left_was mark times left from position time is =
    let both = below_left (nat_lt position mark) (get times position) time (sym (from position) ∙ is) in
    let test = both.0 in
    (grind arith, both.1)

left_same : (mark : ℕ) (times left : Times) → AreFrom mark times left → (position : ℕ) → mark ≤ position →
    get left position ≡ get times position
left_same mark times left from position at =
    let test : nat_lt position mark ≡ false = grind arith in
    from position ∙ ap (λ (b : Bool). if b then None else get times position) test

-- The words from a mark on are those that waited before, but for the queue.
pub mark_goes_on : (w : WaitingState) (old_mark mark : ℕ) (times left : Times) → old_mark ≤ mark → AreFrom mark times left →
    Waits w old_mark times → Remembers w mark left
mark_goes_on w old_mark mark times left on from h = record {
  word = λ position time is.
      let was = left_was mark times left from position time is in
      let old = h.words.word position time was.1 in record {
        from_mark = was.0;
        in_window = let near = old.in_window in omega arith;
        before_clock = old.before_clock;
        since_is = old.since_is;
        below_end = old.below_end;
        covered = old.covered;
      };
  high_waits = λ number queued at.
      left_same mark times left from (high w number) at ∙ h.words.high_waits number queued (h.from_mark number queued);
  rising = h.words.rising;
  later = h.words.later;
  unheld = h.words.unheld;
  newest = h.words.newest;
  all_held = λ none below. h.words.all_held none (omega arith);
  held = λ past.
      let same = left_same mark times left from (w.held_end - 1) (omega arith) in
      still_waited w.hold w.clock w.clock times left (w.held_end - 1) (omega arith) same (h.words.held (omega arith));
  not_before = h.words.not_before;
  not_before_now = h.words.not_before_now;
}

-- Where the last of the queued highs before a number is below the mark, all of them are.
below_mark : (w : WaitingState) (mark from number : ℕ) (times : Times) → AreBelow mark w from → from ≤ w.next →
    Remembers w mark times → IsQueued w number → number < from → high w number < mark
below_mark w mark from number times below most p queued less =
    let some : w.first < from = (let a = queued.0 in omega arith) in
    let last : high w (from - 1) < mark = below.1 some in
    ⊎_elim
    (λ (before : number < from - 1).
    let up : high w number < high w (from - 1) = p.rising number (from - 1) queued (omega arith, omega arith) before in
    omega arith)
    (λ (up_to : from - 1 ≤ number).
    let same : number ≡ from - 1 = omega arith in
    let there : high w number ≡ high w (from - 1) = ap (λ (n : ℕ). high w n) same in
    omega arith)
    (cases_lt number (from - 1))

-- They leave.
below_leave : (w : WaitingState) (mark from : ℕ) (times : Times) → AreBelow mark w from → from ≤ w.next → Remembers w mark times →
    Remembers (record w { first = from }) mark times
below_leave w mark from times below most p = record {
  word = λ position time is.
      let old = p.word position time is in record {
        from_mark = old.from_mark;
        in_window = old.in_window;
        before_clock = old.before_clock;
        since_is = old.since_is;
        below_end = old.below_end;
        covered = ⊎_elim
            (λ left. inl left)
            (λ outwaited. ⊎_elim
            (λ (less : outwaited.number < from).
            let passed = below_mark w mark from outwaited.number times below most p outwaited.queued less in
            let past = outwaited.past in
            let at = old.from_mark in
            absurd (omega arith))
            (λ (rest : from ≤ outwaited.number). inr (record {
              number = outwaited.number;
              queued = (rest, outwaited.queued.1);
              past = outwaited.past;
              sooner = outwaited.sooner;
            }))
            (cases_lt outwaited.number from))
            old.covered;
      };
  high_waits = λ number queued at. p.high_waits number (was_queued number queued) at;
  rising = λ number other queued queued' less. p.rising number other (was_queued number queued) (was_queued other queued') less;
  later = λ number other queued queued' less. p.later number other (was_queued number queued) (was_queued other queued') less;
  unheld = λ number queued. p.unheld number (was_queued number queued);
  newest = λ more. p.newest (let up = below.0 in omega arith);
  all_held = λ none at. ⊎_elim
      (λ (some : w.first < w.next).
      let last : high w (w.next - 1) + 1 ≡ w.high_end = p.newest some in
      let passed = below_mark w mark from (w.next - 1) times below most p (omega arith, omega arith) (omega arith) in
      absurd (omega arith))
      (λ (empty : w.next ≤ w.first). p.all_held empty at)
      (cases_lt w.first w.next);
  held = p.held;
  not_before = λ number queued. p.not_before number (was_queued number queued);
  not_before_now = p.not_before_now;
}
  where
    was_queued : (number : ℕ) → (from ≤ number) × (number < w.next) → IsQueued w number
    was_queued number queued = (let q = queued.0 in let up = below.0 in omega arith, queued.1)

-- The mark moves on, and those leave that are below it.
pub words_leave : (w : WaitingState) (old_mark mark from : ℕ) (times left : Times) → AreBelow mark w from → AreNotBelow mark w from →
    old_mark ≤ mark → AreFrom mark times left → Waits w old_mark times → Waits (record w { first = from }) mark left
words_leave w old_mark mark from times left below rest on are_from h =
    let p = mark_goes_on w old_mark mark times left on are_from h in
    record {
      words = below_leave w mark from left below rest.0 p;
      from_mark = λ number queued.
          let up = below.0 in
          let first : mark ≤ high w from = rest.1 old_mark times h (let a = queued.0 in let b = queued.1 in omega arith) in
          ⊎_elim
          (λ (past : from < number).
          let b = queued.1 in
          let up : high w from < high w number = p.rising from number (omega arith, omega arith) (omega arith, b) past in
          omega arith)
          (λ (up_to : number ≤ from).
          let a = queued.0 in
          let same : number ≡ from = omega arith in
          let there : high w number ≡ high w from = ap (λ (n : ℕ). high w n) same in
          omega arith)
          (cases_lt from number);
    }

-- No more highs are below the mark than the mark is past the oldest.
pub most_below : (w : WaitingState) (mark most number : ℕ) → most ≡ mark - high w w.first → w.first ≤ w.next →
    number ≡ w.first + min most (w.next - w.first) → AreNotBelow mark w number
most_below w mark most number is order at = (
  omega arith,
  λ old_mark times h less.
      let far = spread w old_mark times h.words (number - w.first) number (omega arith) (omega arith, less) in
      omega arith,
)
