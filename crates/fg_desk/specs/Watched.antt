-- Which lines have to be looked at, and what looking at them finds. No public contract cites it.
use Rattle.std.specs.Prelude.{◌≡◌, ◌⊎◌, ◌<◌, ℕ, List, Bool, true, false, Option, Some, None, IsTrue}
use Rattle.std.specs.List.{Contains}
use Rattle.std.specs.FinMap.{get}
use Rattle.std.specs.FinSet as set
use Rattle.fg_words.specs.declared.Word.{Word}
use Rattle.fg_words.specs.Word.{IsMedia, HasRoom}
use Rattle.fg_peel.specs.declared.looks.Look.{Look}
use Rattle.fg_peel.specs.declared.looks.Look.TheVariants.{Several, Found, Complete}
use Rattle.fg_peel.specs.Equation.{Equation, AreMedia, IsComplete, IsSettled, ComesOut}
use Rattle.fg_peel.specs.Look.{LacksTwo, IsLook}
use Rattle.fg_peel.specs.Peeling.{ArePeeled}
use Rattle.fg_playout.specs.State.{Live}
use Rattle.fg_buffer.specs.PlayoutBuffer.{BufferState, buffer_words}
use Rattle.fg_buffer.specs.LiveEquations.{LiveState, AreLive, NoneIsOpenAt, SettlesAt}
use Rattle.fg_buffer.specs.Watches.{WatchState, IsQueued, WatchesAt, Wakes, first_of, second_of, nowhere}
use Rattle.fg_desk.specs.Storage.{equations_in, EachSettled}

-- The line has to be looked at, or it watches the first two of its slots that lack words.
abbrev pub IsWatched : WatchState → (ℕ → Option Word) → Live → Type 0
IsWatched watches words live =
    IsQueued watches live.place
    ⊎ LacksTwo words live.equation (first_of watches live.place) (second_of watches live.place)

-- That is so of each live line that is open.
abbrev pub EachWatched : WatchState → (ℕ → Option Word) → LiveState → Type 0
EachWatched watches words lines =
    (serial : ℕ) (live : Live) → get lines.live serial ≡ Some live → set.contains lines.settled serial ≡ false
    → (live.place < 512) × IsWatched watches words live

-- It is so but for lines that are complete and don't come out, once there is no solution.
abbrev pub EachWatchedBut : Bool → WatchState → (ℕ → Option Word) → LiveState → Type 0
EachWatchedBut sound watches words lines =
    (serial : ℕ) (live : Live) → get lines.live serial ≡ Some live → set.contains lines.settled serial ≡ false
    → (live.place < 512) × (IsWatched watches words live ⊎ ((sound ≡ false) × IsComplete words live.equation))

-- No line has to be looked at.
abbrev pub NoneIsQueued : WatchState → Type 0
NoneIsQueued watches = (place : ℕ) → ¬ IsQueued watches place

-- The parity word of each live line has room.
abbrev pub HaveRooms : LiveState → Type 0
HaveRooms lines = (serial : ℕ) (live : Live) → get lines.live serial ≡ Some live → HasRoom live.equation.parity

-- A found word is no media word, or a complete equation doesn't come out.
abbrev pub Breaks : (ℕ → Option Word) → (ℕ → Option Word) → List Equation → Type 0
Breaks known words equations =
    ((position : ℕ) × (word : Word) × (known position ≡ None) × (words position ≡ Some word) × ¬ IsMedia word)
    ⊎ ((equation : Equation) × Contains equations equation × IsComplete words equation × ¬ ComesOut words equation)

-- What is so while lines are looked at: words were found by a peeling, and lines were settled.
pub record Finds (old : BufferState) (lines : LiveState) (new : BufferState) (left : LiveState) (watches : WatchState) (sound : Bool) : Type 0 where
  pub rest : new ≡ record old { cached = new.cached }
  pub live : left.live ≡ lines.live
  pub peeled : ArePeeled (equations_in lines) (buffer_words old) (buffer_words new)
  pub settled : EachSettled left (IsSettled (buffer_words new))
  pub watched : EachWatchedBut sound watches (buffer_words new) left
  pub media : IsTrue sound → AreMedia (buffer_words old) → AreMedia (buffer_words new)
  pub broken : sound ≡ false → Breaks (buffer_words old) (buffer_words new) (equations_in lines)

-- A found position is one that can be watched.
abbrev pub IsNear : Look → Type 0
IsNear (Several first second) = Unit {0}
IsNear (Found position media) = position < nowhere
IsNear (Complete sound) = Unit {0}

-- What follows from what a look at the line of a place found.
abbrev pub Follows : Look → ℕ → LiveState → WatchState → LiveState → WatchState → Bool → Type 0
Follows (Several first second) place lines watches left then answer =
    (left ≡ lines) × WatchesAt place first second watches then × (answer ≡ true)
Follows (Found position media) place lines watches left then answer =
    SettlesAt place lines left
    × ((between : WatchState) × WatchesAt place nowhere nowhere watches between × Wakes position between then)
    × (answer ≡ media)
Follows (Complete true) place lines watches left then answer =
    SettlesAt place lines left × WatchesAt place nowhere nowhere watches then × (answer ≡ true)
Follows (Complete false) place lines watches left then answer =
    (left ≡ lines) × WatchesAt place nowhere nowhere watches then × (answer ≡ false)

-- The open line of a place is looked at.
pub record IsVisit (place : ℕ)
    (old : BufferState) (lines : LiveState) (watches : WatchState) (new : BufferState) (left : LiveState) (then : WatchState)
    (answer : Bool) : Type 0 where
  pub serial : ℕ
  pub live : Live
  pub look : Look
  pub is : get lines.live serial ≡ Some live
  pub open_still : set.contains lines.settled serial ≡ false
  pub placed : live.place ≡ place
  pub facts : AreLive lines
  pub rest : new ≡ record old { cached = new.cached }
  pub look_is : IsLook (buffer_words old) (buffer_words new) live.equation look
  pub follows : Follows look place lines watches left then answer

-- Where there is none, nothing changes.
pub record IsPassed (place : ℕ)
    (old : BufferState) (lines : LiveState) (watches : WatchState) (new : BufferState) (left : LiveState) (then : WatchState)
    (answer : Bool) : Type 0 where
  pub none : NoneIsOpenAt place lines
  pub buffer_is : new ≡ old
  pub lines_are : left ≡ lines
  pub watches_are : then ≡ watches
  pub answer_is : answer ≡ true
