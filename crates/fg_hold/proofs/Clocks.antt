-- The clock goes on, and it is noted from when on a word may have waited long enough.
use Rattle.std.proofs.Common.{ℕ, ◌+◌, ◌-◌, ◌≤◌, refl, ⊎_elim, inl, inr, arith}
use Rattle.fg_hold.specs.HasWaited.{Times}
use Rattle.fg_hold.specs.Waiting.{WaitingState, Waits, IsQueued, since, high}
use Rattle.fg_hold.proofs.Queue.{still_waited}

-- All words wait that waited before, and maybe longer.
pub times_go_on : (w : WaitingState) (clock earliest mark : ℕ) (times : Times) → w.clock ≤ clock →
    ((number : ℕ) → IsQueued w number → earliest ≤ since w (high w number) + w.hold) → earliest ≤ clock + w.hold →
    Waits w mark times → Waits (record w { clock = clock; earliest_held = earliest }) mark times
times_go_on w clock earliest mark times on not_before not_before_now h = record {
  words = record {
    word = λ position time is.
        let old = h.words.word position time is in record {
          from_mark = old.from_mark;
          in_window = old.in_window;
          before_clock = let before = old.before_clock in omega arith;
          since_is = old.since_is;
          below_end = old.below_end;
          covered = ⊎_elim (λ left. inl left)
              (λ outwaited. inr (record {
                number = outwaited.number;
                queued = outwaited.queued;
                past = outwaited.past;
                sooner = outwaited.sooner;
              }))
              old.covered;
        };
    high_waits = h.words.high_waits;
    rising = h.words.rising;
    later = h.words.later;
    unheld = h.words.unheld;
    newest = h.words.newest;
    all_held = h.words.all_held;
    held = λ past. still_waited w.hold w.clock clock times times (w.held_end - 1) on refl (h.words.held past);
    not_before = not_before;
    not_before_now = not_before_now;
  };
  from_mark = h.from_mark;
}

pub clock_goes_on : (w : WaitingState) (clock mark : ℕ) (times : Times) → w.clock ≤ clock → Waits w mark times →
    Waits (record w { clock = clock }) mark times
clock_goes_on w clock mark times on h =
    let now = h.words.not_before_now in
    times_go_on w clock w.earliest_held mark times on h.words.not_before (omega arith) h
