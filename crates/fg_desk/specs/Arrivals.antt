-- Which desks are left by the plays that come before an arrival: the facts hold of them, and they have room.
use Rattle.std.specs.Prelude.{◌≢◌, ℕ, List}
use Rattle.fg_playout.specs.State.{State}
use Rattle.fg_playout.specs.Facts.{Holds}
use Rattle.fg_playout.specs.Room.{HasRoom}
use Rattle.fg_playout.specs.Play.{Play}
use Rattle.fg_playout.specs.Run.{Arrival}
use Rattle.fg_playout.specs.Admission.{counted}
use Rattle.fg_playout.specs.Laws.{HavePlayedBefore, HavePlayedThen, HavePlayedFor, AreFlushSteps, AreHeldSteps}

-- The facts hold of a desk, and it has room, for one more call too: a step of a flush, or a held step, that finds nothing is one.
abbrev pub HasRoomStill : State → Type 0
HasRoomStill desk = Holds desk × HasRoom desk × HasRoom (counted desk)

-- So do all desks that the plays which come before some datagram leave.
abbrev pub StaysWithin : State → Type 0
StaysWithin old = (arrival : Arrival) (plays : List Play) (new : State) → HavePlayedFor old arrival plays new → HasRoomStill new

-- Of those plays: the held ones by a time; those that come where no word waits for too long; and those before a media datagram.
abbrev pub HeldWithin : State → ℕ → Type 0
HeldWithin old time =
    old.playout.hold ≢ 0 → (plays : List Play) (new : State) → AreHeldSteps old time plays new → HasRoomStill new

abbrev pub ThenWithin : State → Arrival → Type 0
ThenWithin old arrival = (plays : List Play) (new : State) → HavePlayedThen old arrival plays new → HasRoomStill new

abbrev pub BeforeWithin : State → ℕ → ℕ → Type 0
BeforeWithin old seq ssrc = (plays : List Play) (new : State) → HavePlayedBefore old seq ssrc plays new → HasRoomStill new

-- So do all that plays before some media datagram leave.
abbrev pub ThenStaysWithin : State → Type 0
ThenStaysWithin old = (seq ssrc : ℕ) → BeforeWithin old seq ssrc

-- So do all desks that flush steps leave.
abbrev pub FlushesWithin : State → Type 0
FlushesWithin old = (flushed : List Play) (new : State) → AreFlushSteps old flushed new → Holds new × HasRoom new
