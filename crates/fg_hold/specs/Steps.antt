-- What the parts of a call do. No public contract cites it.
use Rattle.std.specs.Prelude.{◌≡◌, ◌+◌, ◌-◌, ◌<◌, ◌≤◌, ℕ}
use Rattle.fg_hold.specs.HasWaited.{Times}
use Rattle.fg_hold.specs.Waiting.{WaitingState, Waits, since, high}

-- How many highs the queue has.
abbrev pub queue_len : WaitingState → ℕ
queue_len w = w.next - w.first

-- The oldest high in the queue has not waited long enough.
abbrev pub OldestIsUnheld : WaitingState → Type 0
OldestIsUnheld w = w.first < w.next → w.clock < since w (high w w.first) + w.hold

-- Highs were taken off that had waited long enough.
pub record TakesHeld (old new : WaitingState) : Type 0 where
  pub hold : new.hold ≡ old.hold
  pub clock : new.clock ≡ old.clock
  pub came : new.came ≡ old.came
  pub waits : (mark : ℕ) (times : Times) → Waits old mark times → Waits new mark times

-- By this time of the clock highs will have left that will have waited long enough, up to one past the last of them, and
-- the oldest in the queue won't have. The words are those that wait now.
pub record WillTake (w : WaitingState) (clock held_end : ℕ) : Type 0 where
  pub first : ℕ
  pub takes : TakesHeld (record w { clock = clock }) (record w { clock = clock; first = first; held_end = held_end })
  pub oldest :
      (mark : ℕ) (times : Times) → Waits (record w { clock = clock; first = first; held_end = held_end }) mark times
      → OldestIsUnheld (record w { clock = clock; first = first; held_end = held_end })

-- The queued highs before this number are below the mark.
abbrev pub AreBelow : ℕ → WaitingState → ℕ → Type 0
AreBelow mark w number = (w.first ≤ number) × (w.first < number → high w (number - 1) < mark)

-- Those from this number on aren't.
abbrev pub AreNotBelow : ℕ → WaitingState → ℕ → Type 0
AreNotBelow mark w number =
    (number ≤ w.next) × ((old_mark : ℕ) (times : Times) → Waits w old_mark times → number < w.next → mark ≤ high w number)
