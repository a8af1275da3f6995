-- Windows that show nothing, passed at once. No public contract cites it.
use Rattle.std.specs.Prelude.{◌≡◌, ◌*◌, ◌<◌, ◌≤◌, ℕ, [], Some, None, IsSomeAnd}
use Rattle.fg_unwrap.specs.Position.{position_of}
use Rattle.fg_hold.specs.Waiting.{WaitingState}
use Rattle.fg_playout.specs.declared.reply.Outcome.TheVariants.{Repaired}
use Rattle.fg_playout.specs.State.{State}
use Rattle.fg_playout.specs.Facts.{Holds}
use Rattle.fg_playout.specs.Room.{farthest_limit}
use Rattle.fg_playout.specs.Empty.{IsEmptyBefore, Skips}
use Rattle.fg_buffer.specs.PlayoutBuffer.{BufferState, IsBuffer, Advances, buffer_words}
use Rattle.fg_buffer.specs.LiveEquations.{LiveState}
use Rattle.fg_desk.specs.Contents.{Contents, ChangesInPlay}
use Rattle.fg_desk.specs.Holding.{Moves}
use Rattle.fg_desk.specs.Storage.{equations_in}

-- A datagram of this sequence number and SSRC is of the current run, and has this position.
abbrev pub LiesAt : State → ℕ → ℕ → ℕ → Type 0
LiesAt desk seq ssrc position =
    IsSomeAnd desk.top (λ top. (top.ssrc ≡ ssrc) × (position_of top.position top.seq seq ≡ Some position))

-- The mark has moved past so many windows that have no word, up to a position, where no equation is live.
pub record PassesWindows (window until most count : ℕ) (lines : LiveState) (buffer : BufferState) (waiting : WaitingState)
    (new : BufferState) (rest : WaitingState) : Type 0 where
  pub facts : IsBuffer buffer
  pub equations : equations_in lines ≡ []
  pub empty : (position : ℕ) → buffer.mark ≤ position → position < new.mark → buffer_words buffer position ≡ None
  pub advances : Advances (count * window) buffer new
  pub moves : Moves waiting new.mark rest
  pub near : new.mark ≤ until
  pub limit : new.mark ≤ farthest_limit
  pub few : count ≤ most

-- What that makes of a desk.
pub record SkipsTo (until count : ℕ) (old new : Contents) : Type 0 where
  pub facts : Holds old.state
  pub skips : Skips count old.state new.state
  pub empty : IsEmptyBefore old.state new.state.mark
  pub near : new.state.mark ≤ until
  pub changes : ChangesInPlay Repaired old new
