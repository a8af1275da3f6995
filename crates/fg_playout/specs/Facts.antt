-- What is true of every desk that calls can leave.
use Rattle.std.specs.Prelude.{◌≡◌, ◌≢◌, ◌+◌, ◌<◌, ◌≤◌, ℕ, Some, None, IsSome, is_some}
use Rattle.std.specs.List.{Contains}
use Rattle.std.specs.FinMap.{get, empty}
use Rattle.fg_words.specs.declared.Word.{Word}
use Rattle.fg_words.specs.Word.{IsMedia}
use Rattle.fg_shape.specs.Shape.{IsShape, position_limit}
use Rattle.fg_peel.specs.Equation.{slots}
use Rattle.fg_playout.specs.State.{State, Top, Live, Words, last_slot}
use Rattle.fg_playout.specs.Admission.{kept_count, live_limit, HaveSameSlots}

-- A word that is kept: a media word, at one of the 100 positions before the mark.
pub record IsKeptBefore (mark position : ℕ) (word : Word) : Type 0 where
  pub media : IsMedia word
  pub below : position < mark
  pub near : mark ≤ position + kept_count

abbrev pub IsKept : State → ℕ → Word → Type 0
IsKept desk = IsKeptBefore desk.mark

-- A word that was received: a media word, at the mark or past it, and less than the depth.
pub record IsReceived (desk : State) (position : ℕ) (word : Word) : Type 0 where
  pub media : IsMedia word
  pub ahead : desk.mark ≤ position
  pub near : position < desk.mark + desk.playout.depth

-- A live equation, where the mark is here, a datagram makes a play due so far past it, these words are kept, and so many
-- equations were admitted.
pub record IsLiveFrom (mark depth : ℕ) (kept : Words) (admitted serial : ℕ) (live : Live) : Type 0 where
  pub shape : IsShape live.equation.offset live.equation.count
  pub base : live.equation.base ≤ position_limit
  pub reaches : mark ≤ last_slot live.equation
  pub near : last_slot live.equation < mark + depth + kept_count
  pub based : (slot : ℕ) → Contains (slots live.equation) slot → slot < mark → IsSome (get kept slot)
  pub numbered : serial < admitted
  pub placed : live.place < live_limit

abbrev pub IsLive : State → ℕ → Live → Type 0
IsLive desk = IsLiveFrom desk.mark desk.playout.depth desk.kept desk.admitted

-- Two live equations of different serial numbers have different places, and different slots.
pub record AreApart (one other : Live) : Type 0 where
  pub places : one.place ≢ other.place
  pub slots : ¬ HaveSameSlots one.equation other.equation

pub record Holds (desk : State) : Type 0 where
  pub window : (1 ≤ desk.playout.window) × (desk.playout.window ≤ kept_count)
  pub depth : desk.playout.window ≤ desk.playout.depth
  pub kept : (position : ℕ) (word : Word) → get desk.kept position ≡ Some word → IsKept desk position word
  pub media : (position : ℕ) (word : Word) → get desk.media position ≡ Some word → IsReceived desk position word
  -- Each received word has a time, no other position has one, and none is past the clock.
  pub timed : (position : ℕ) → is_some (get desk.times position) ≡ is_some (get desk.media position)
  pub clocked : (position time : ℕ) → get desk.times position ≡ Some time → time ≤ desk.clock
  pub live : (serial : ℕ) (live : Live) → get desk.equations serial ≡ Some live → IsLive desk serial live
  pub apart :
      (serial serial' : ℕ) (one other : Live) → get desk.equations serial ≡ Some one
      → get desk.equations serial' ≡ Some other → serial ≢ serial' → AreApart one other
  -- The current run began at the mark or before it, and each live equation lies in it.
  pub origin : desk.origin ≤ desk.mark
  pub based :
      (serial : ℕ) (live : Live) → get desk.equations serial ≡ Some live → desk.origin ≤ live.equation.base
  -- Before the first media datagram nothing is there, and no run was begun.
  pub unopened :
      desk.top ≡ None
      → (desk.mark ≡ 0) × (desk.media ≡ empty) × (desk.kept ≡ empty) × (desk.equations ≡ empty) × (desk.runs ≡ 0)
      × (desk.previous ≡ None)
  pub opened : desk.top ≢ None → 1 ≤ desk.runs
  -- The run before had another sender.
  pub senders : (top : Top) → desk.top ≡ Some top → desk.previous ≢ Some top.ssrc
