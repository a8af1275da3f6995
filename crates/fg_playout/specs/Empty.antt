-- Windows that show nothing, one after another, come to one step of the desk. This project's own.
use Rattle.std.specs.Prelude.{◌≡◌, ◌≢◌, ◌+◌, ◌-◌, ◌*◌, ◌<◌, ◌≤◌, ℕ, zero, suc, nat_le, IsSome, List, [], ◌∷◌, replicate, None, if◌then◌else◌}
use Rattle.std.specs.FinMap.{get}
use Rattle.fg_playout.specs.declared.reply.Outcome.TheVariants.{Repaired}
use Rattle.fg_playout.specs.State.{State, live_equations}
use Rattle.fg_playout.specs.Admission.{IsDue, kept_count}
use Rattle.fg_playout.specs.Play.{Play, nothing_shown}
use Rattle.fg_playout.specs.Held.{at_time, IsHeld, IsGreatest}
use Rattle.fg_playout.specs.Laws.{HavePlayed, AreFlushSteps, AreHeldSteps}
use Rattle.fg_playout.specs.Facts.{Holds}

-- A play of a window that shows nothing, from a first position on.
abbrev pub empty_play : ℕ → ℕ → Play
empty_play window first = record { first = first; shown = replicate window nothing_shown; outcome = Repaired }

-- So many of them, one after another.
abbrev pub empty_plays : ℕ → ℕ → ℕ → List Play
empty_plays zero window first = []
empty_plays (suc count) window first = empty_play window first ∷ empty_plays count window (first + window)

-- No equation is live, and no word is received below this position.
pub record IsEmptyBefore (desk : State) (position : ℕ) : Type 0 where
  pub equations : live_equations desk ≡ []
  pub media : (other : ℕ) → other < position → get desk.media other ≡ None

-- What so many windows that show nothing make of a desk. The mark moves past them, and of the kept words those are left that
-- lie at the 100 positions before it.
pub record Skips (count : ℕ) (old new : State) : Type 0 where
  pub mark : new.mark ≡ old.mark + count * old.playout.window
  pub kept :
      (position : ℕ) → get new.kept position
      ≡ (if nat_le new.mark (position + kept_count) then get old.kept position else None)
  pub rest : new ≡ record old { mark = new.mark; kept = new.kept; calls = old.calls + count }

-- The facts hold of the desk that they leave.
abbrev pub EmptyWindowsKeep : Type 0
EmptyWindowsKeep =
    (count : ℕ) (old new : State) → Holds old → old.top ≢ None → IsEmptyBefore old new.mark → Skips count old new → Holds new

-- They are plays that are due before a media datagram, where the last of them is,
abbrev pub EmptyWindowsAreDue : Type 0
EmptyWindowsAreDue =
    (count seq ssrc : ℕ) (old new : State) → Holds old → IsEmptyBefore old new.mark → Skips count old new
    → (count ≢ 0 → IsDue (record old { mark = old.mark + (count - 1) * old.playout.window }) seq ssrc)
    → HavePlayed old seq ssrc (empty_plays count old.playout.window old.mark) new

-- steps of a flush, where a word is received past them,
abbrev pub EmptyWindowsAreFlushed : Type 0
EmptyWindowsAreFlushed =
    (count position : ℕ) (old new : State) → Holds old → IsEmptyBefore old new.mark → Skips count old new
    → new.mark ≤ position → IsSome (get old.media position)
    → AreFlushSteps old (empty_plays count old.playout.window old.mark) new

-- and held plays at a time, where a position past them is held by then.
abbrev pub EmptyWindowsAreHeld : Type 0
EmptyWindowsAreHeld =
    (count time greatest : ℕ) (old new : State) → Holds old → IsEmptyBefore old new.mark → Skips count (at_time old time) new
    → count ≢ 0 → new.mark ≤ greatest → IsGreatest (IsHeld (at_time old time)) greatest
    → AreHeldSteps old time (empty_plays count old.playout.window old.mark) new
