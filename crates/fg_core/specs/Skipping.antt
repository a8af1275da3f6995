-- Windows that show nothing, passed in one call. This project's own.
use Rattle.std.specs.Prelude.{◌≡◌, ◌≢◌, ℕ, zero, suc, List, [], Option, Some, None}
use Rattle.fg_playout.specs.declared.reply.Outcome.TheVariants.{Repaired}
use Rattle.fg_playout.specs.State.{State, live_equations}
use Rattle.fg_playout.specs.Play.{Play, IsPlay}
use Rattle.fg_playout.specs.Laws.{HavePlayed, AreFlushSteps, AreHeldSteps}
use Rattle.fg_playout.specs.Held.{at_time}
use Rattle.fg_playout.specs.Empty.{empty_play}
use Rattle.fg_desk.specs.Contents.{ChangesInPlay}
use Rattle.fg_core.specs.Board.{BoardState, KeepsNotes}
use Rattle.fg_core.specs.declared.skipping.Skip.{Skip}
use Rattle.fg_core.specs.declared.skipping.Skip.TheVariants as skip

-- The time that is told with windows that are passed so.
abbrev pub time_of : Skip → Option ℕ
time_of (skip.Due seq ssrc) = None
time_of skip.Rest = None
time_of (skip.Held time) = Some time

-- These plays are those that are due before a datagram, those of a flush, or those that are held at a time.
abbrev pub ArePlayed : Skip → State → List Play → State → Type 0
ArePlayed (skip.Due seq ssrc) old plays new = HavePlayed old seq ssrc plays new
ArePlayed skip.Rest old plays new = AreFlushSteps old plays new
ArePlayed (skip.Held time) old plays new = AreHeldSteps old time plays new

-- The desk, told a time where one is given.
abbrev pub timed : Option ℕ → State → State
timed None desk = desk
timed (Some time) desk = at_time desk time

-- So many windows are played one after another, and show nothing.
abbrev pub ArePassed : ℕ → State → State → Type 0
ArePassed zero old new = new ≡ old
ArePassed (suc count) old new =
    (next : State) × IsPlay old.playout.window old (empty_play old.playout.window old.mark) next
    × ArePassed count next new

-- What a call that passes so many windows makes of a desk. It does so only where no equation is live. Where it passes none
-- nothing changes, and no time is told.
pub record Passes (time : Option ℕ) (count : ℕ) (old new : State) : Type 0 where
  pub none : count ≡ 0 → new ≡ old
  pub equations : count ≢ 0 → live_equations old ≡ []
  pub plays : count ≢ 0 → ArePassed count (timed time old) new

-- What it makes of a board.
pub record PassesOn (old : BoardState) (time : Option ℕ) (count : ℕ) (new : BoardState) : Type 0 where
  pub state : Passes time count old.desk.state new.desk.state
  pub none : count ≡ 0 → new.desk ≡ old.desk
  pub changes : count ≢ 0 → ChangesInPlay Repaired old.desk new.desk
  pub notes : KeepsNotes old new
