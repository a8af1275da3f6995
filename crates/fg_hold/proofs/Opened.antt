-- No word waits.
use Rattle.std.proofs.Common.{◌≡◌, arith}
use Rattle.std.specs.FinMap.{empty}
use Rattle.fg_peel.proofs.Maps.{nothing_in_empty}
use Rattle.fg_hold.specs.Waiting.{WaitingState, Waits}

pub none_waits : (w : WaitingState) → w.next ≡ 0 → w.high_end ≡ 0 → w.held_end ≡ 0 → w.earliest_held ≡ 0 → Waits w 0 empty
none_waits w none low unheld early = record {
  words = record {
    word = λ position time is. absurd (nothing_in_empty position time is);
    high_waits = λ number queued from. absurd (let below = queued.1 in omega arith);
    rising = λ number other queued queued' less. absurd (let below = queued.1 in omega arith);
    later = λ number other queued queued' less. absurd (let below = queued.1 in omega arith);
    unheld = λ number queued. absurd (let below = queued.1 in omega arith);
    newest = λ some. absurd (omega arith);
    all_held = λ empty below. absurd (omega arith);
    held = λ past. absurd (omega arith);
    not_before = λ number queued. absurd (let below = queued.1 in omega arith);
    not_before_now = omega arith;
  };
  from_mark = λ number queued. absurd (let below = queued.1 in omega arith);
}
