-- Which positions a desk holds for too long, and the plays that close them. This project's own.
use Rattle.std.specs.Prelude.{◌≡◌, ◌≢◌, ◌+◌, ◌-◌, ◌≤◌, ℕ, min, max, Option, Some, None, IsSomeAnd}
use Rattle.std.specs.FinMap.{get}
pub use Rattle.fg_peel.specs.Words.{IsGreatest}
use Rattle.fg_playout.specs.State.{State}
use Rattle.fg_playout.specs.Admission.{counted}
use Rattle.fg_playout.specs.Play.{Play, IsPlay}

-- The desk once it is told a time. Its clock is the greatest so far, since times may go back.
abbrev pub at_time : State → ℕ → State
at_time desk time = record desk { clock = max desk.clock time }

-- A position that isn't played yet is held: its word has waited for as long as one may wait, or longer.
abbrev pub IsHeld : State → ℕ → Type 0
IsHeld desk position =
    (desk.playout.hold ≢ 0) × (desk.mark ≤ position)
    × IsSomeAnd (get desk.times position) (λ time. time + desk.playout.hold ≤ desk.clock)

-- A held play closes the positions up to the greatest such word's, and at most a window.
pub record IsHeldPlay (old : State) (play : Play) (new : State) : Type 0 where
  pub greatest : ℕ
  pub greatest_is : IsGreatest (IsHeld old) greatest
  pub plays : IsPlay (min old.playout.window (greatest + 1 - old.mark)) old play new

-- A held play where one is defined, and else the desk is as it was.
abbrev pub PlaysHeld : State → Option Play → State → Type 0
PlaysHeld old None new = ((position : ℕ) → ¬ IsHeld old position) × (new ≡ counted old)
PlaysHeld old (Some play) new = IsHeldPlay old play new

-- A call of a held step: the desk is told the time of a datagram, and then makes a held play.
abbrev pub IsHeldStep : State → ℕ → Option Play → State → Type 0
IsHeldStep old time play new = PlaysHeld (at_time old time) play new
