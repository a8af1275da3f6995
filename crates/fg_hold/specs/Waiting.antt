-- Which words have waited long enough, as it is found without a scan.
--
-- Times never fall in the order in which words come. So a word that comes below one that came before it is of no account:
-- the higher one has waited at least as long. Only a position higher than all before it, a high, is queued.
use Rattle.std.specs.Prelude.{◌≡◌, ◌⊎◌, ◌+◌, ◌-◌, ◌<◌, ◌≤◌, ◌^◌, ℕ, nat_lt, List, length, Some, None, if◌then◌else◌, refl}
use Rattle.std.specs.Coded.{Coded, code_by, coded×, coded_ℕ, coded_list}
use Rattle.std.specs.FinMap.{get}
use Rattle.fg_hold.specs.HasWaited.{Times, HasWaited}
use Rattle.fg_hold.specs.Ring.{ring_at}

pub record WaitingState : Type 0 where
  -- How long a word waits at most, in microseconds. At 0 no word is put.
  pub hold : ℕ
  -- The greatest record time so far.
  pub clock : ℕ
  -- The clock when the word came, by position.
  pub came : List ℕ
  -- The position of a high, by its number.
  pub highs : List ℕ
  -- The number of the oldest high in the queue.
  pub first : ℕ
  -- One past the number of the newest.
  pub next : ℕ
  -- One past the greatest position ever put.
  pub high_end : ℕ
  -- One past the greatest high that left the queue since it had waited long enough, and 0 before.
  pub held_end : ℕ
  -- Before this time of the clock no queued high has waited long enough.
  pub earliest_held : ℕ

-- How states are told apart.
abbrev pub waiting_code : Coded WaitingState
waiting_code =
    code_by (ℕ × (ℕ × (List ℕ × (List ℕ × (ℕ × (ℕ × (ℕ × (ℕ × ℕ))))))))
    (coded× coded_ℕ (coded× coded_ℕ (coded× (coded_list coded_ℕ) (coded× (coded_list coded_ℕ)
    (coded× coded_ℕ (coded× coded_ℕ (coded× coded_ℕ (coded× coded_ℕ coded_ℕ))))))))
    (λ w. (w.hold, (w.clock, (w.came, (w.highs, (w.first, (w.next, (w.high_end, (w.held_end, w.earliest_held)))))))))
    (λ p. record {
      hold = p.0;
      clock = p.1.0;
      came = p.1.1.0;
      highs = p.1.1.1.0;
      first = p.1.1.1.1.0;
      next = p.1.1.1.1.1.0;
      high_end = p.1.1.1.1.1.1.0;
      held_end = p.1.1.1.1.1.1.1.0;
      earliest_held = p.1.1.1.1.1.1.1.1;
    })
    (λ _. refl)

-- The clock when the word of a position came, where one waits there.
abbrev pub since : WaitingState → ℕ → ℕ
since w position = ring_at w.came position

-- The position of a high.
abbrev pub high : WaitingState → ℕ → ℕ
high w number = ring_at w.highs number

-- The high with this number is in the queue.
abbrev pub IsQueued : WaitingState → ℕ → Type 0
IsQueued w number = (w.first ≤ number) × (number < w.next)

-- A queued high at the position or past it has waited at least as long as a word that came at this time.
pub record IsOutwaited (w : WaitingState) (position time : ℕ) : Type 0 where
  pub number : ℕ
  pub queued : IsQueued w number
  pub past : position ≤ high w number
  pub sooner : since w (high w number) ≤ time

-- A word that came at this time waits at the position, in the window of 1,000 positions from the mark on.
pub record IsWaiting (w : WaitingState) (mark position time : ℕ) : Type 0 where
  pub from_mark : mark ≤ position
  pub in_window : position < mark + 1000
  pub before_clock : time ≤ w.clock
  pub since_is : since w position ≡ time
  pub below_end : position < w.high_end
  pub covered : (position < w.held_end) ⊎ IsOutwaited w position time

-- These are the words at the mark and past it, each with its time. Only the queue may still have highs below the mark.
pub record Remembers (w : WaitingState) (mark : ℕ) (times : Times) : Type 0 where
  pub word : (position time : ℕ) → get times position ≡ Some time → IsWaiting w mark position time
  -- The queued highs have waiting words. They rise in position, and never fall in time.
  pub high_waits :
      (number : ℕ) → IsQueued w number → mark ≤ high w number
      → get times (high w number) ≡ Some (since w (high w number))
  pub rising : (number other : ℕ) → IsQueued w number → IsQueued w other → number < other → high w number < high w other
  pub later :
      (number other : ℕ) → IsQueued w number → IsQueued w other → number < other
      → since w (high w number) ≤ since w (high w other)
  -- They lie past those that have left the queue. The last is the greatest position ever put.
  pub unheld : (number : ℕ) → IsQueued w number → w.held_end ≤ high w number
  pub newest : w.first < w.next → high w (w.next - 1) + 1 ≡ w.high_end
  pub all_held : w.next ≤ w.first → mark < w.high_end → w.held_end ≡ w.high_end
  -- The greatest that has left the queue has a word that has waited long enough.
  pub held : mark < w.held_end → HasWaited w.hold w.clock times (w.held_end - 1)
  -- None of the queued, and none that comes now or later, has waited long enough before the earliest time.
  pub not_before : (number : ℕ) → IsQueued w number → w.earliest_held ≤ since w (high w number) + w.hold
  pub not_before_now : w.earliest_held ≤ w.clock + w.hold

-- These are the words that wait at the mark and past it, each with its time.
pub record Waits (w : WaitingState) (mark : ℕ) (times : Times) : Type 0 where
  pub words : Remembers w mark times
  pub from_mark : (number : ℕ) → IsQueued w number → mark ≤ high w number

-- What is true of every state: rings have room for words where some may wait, and numbers stay within their limits.
pub record HasRoom (w : WaitingState) : Type 0 where
  pub came : 0 < w.hold → length w.came ≡ 1024
  pub highs : 0 < w.hold → length w.highs ≡ 1024
  pub order : w.first ≤ w.next
  pub few : w.next ≤ w.high_end
  pub limit : w.high_end ≤ 2 ^ 62

-- The times of the words from a mark on.
abbrev pub AreFrom : ℕ → Times → Times → Type 0
AreFrom mark times left = (position : ℕ) → get left position ≡ (if nat_lt position mark then None else get times position)
