-- Which received words wait, and since when, as a desk keeps it. No public contract cites it.
use Rattle.std.specs.Prelude.{◌≡◌, ◌+◌, ◌<◌, ◌≤◌, ℕ, map, max, nat_lt, Option, Some, None, IfSome, IfNone, if◌then◌else◌}
use Rattle.std.specs.FinMap.{get, insert, entries, from_entries}
use Rattle.fg_words.specs.declared.Word.{Word}
use Rattle.fg_peel.specs.Words.{IsGreatest}
use Rattle.fg_hold.specs.HasWaited.{Times, HasWaited}
use Rattle.fg_hold.specs.Waiting.{WaitingState, Waits, since}
use Rattle.fg_playout.specs.State.{Words}

-- The times of the words of a map, told by their positions.
abbrev pub times_of : Words → (ℕ → ℕ) → Times
times_of media came = from_entries (map (λ entry. (entry.0, came entry.0)) (entries media))

abbrev pub times_in : WaitingState → Words → Times
times_in waiting media = times_of media (since waiting)

-- What a map has from a mark on.
abbrev pub IsFrom : ℕ → Words → Words → Type 0
IsFrom mark media left = (position : ℕ) → get left position ≡ (if nat_lt position mark then None else get media position)

-- The received words wait with their times. Where they may wait for ever no time is told, and each has come at 0.
pub record AreTimed (waiting : WaitingState) (mark : ℕ) (media : Words) : Type 0 where
  pub near : (position : ℕ) (word : Word) → get media position ≡ Some word → (mark ≤ position) × (position < mark + 1000)
  pub limited : 0 < waiting.hold → Waits waiting mark (times_in waiting media)
  pub unlimited : waiting.hold ≡ 0 → (waiting.clock ≡ 0) × ((position : ℕ) → since waiting position ≡ 0)

-- A word comes at a position in the window where none waits.
pub record ComesAt (waiting : WaitingState) (mark : ℕ) (media : Words) (position : ℕ) : Type 0 where
  pub timed : AreTimed waiting mark media
  pub ahead : mark ≤ position
  pub near : position < mark + 1000
  pub none : get media position ≡ None

-- Its time is noted.
pub record Notes (old : WaitingState) (position : ℕ) (new : WaitingState) : Type 0 where
  pub hold : new.hold ≡ old.hold
  pub clock : new.clock ≡ old.clock
  pub timed :
      (mark : ℕ) (media : Words) (word : Word) → ComesAt old mark media position
      → AreTimed new mark (insert media position word)
  pub times :
      (mark : ℕ) (media : Words) (word : Word) → ComesAt old mark media position
      → times_in new (insert media position word) ≡ insert (times_in old media) position old.clock

-- The mark moves on.
pub record Moves (old : WaitingState) (mark : ℕ) (new : WaitingState) : Type 0 where
  pub hold : new.hold ≡ old.hold
  pub clock : new.clock ≡ old.clock
  pub timed :
      (before : ℕ) (media left : Words) → AreTimed old before media → before ≤ mark → IsFrom mark media left
      → AreTimed new mark left
  pub times :
      (media left : Words) → IsFrom mark media left
      → (position : ℕ) → get (times_in new left) position
      ≡ (if nat_lt position mark then None else get (times_in old media) position)

-- A time is told, and the greatest position is answered whose word has waited long enough.
pub record Tells (old : WaitingState) (time mark : ℕ) (result : Option ℕ) (new : WaitingState) : Type 0 where
  pub hold : new.hold ≡ old.hold
  pub clock : new.clock ≡ max old.clock time
  pub timed : (media : Words) → AreTimed old mark media → AreTimed new mark media
  pub times : (media : Words) → times_in new media ≡ times_in old media
  pub some :
      (media : Words) → AreTimed old mark media
      → IfSome result (IsGreatest (HasWaited new.hold new.clock (times_in new media)))
  pub none :
      (media : Words) → AreTimed old mark media
      → IfNone result ((position : ℕ) → ¬ HasWaited new.hold new.clock (times_in new media) position)

-- Before a time is told, the greatest position is answered whose word will then have waited long enough. There is none
-- where words may wait for ever.
pub record Foretells (waiting : WaitingState) (time mark : ℕ) (result : Option ℕ) : Type 0 where
  pub some :
      (media : Words) → AreTimed waiting mark media
      → IfSome result (λ greatest. (0 < waiting.hold)
      × IsGreatest (HasWaited waiting.hold (max waiting.clock time) (times_in waiting media)) greatest)
  pub none :
      (media : Words) → AreTimed waiting mark media → 0 < waiting.hold
      → IfNone result ((position : ℕ) → ¬ HasWaited waiting.hold (max waiting.clock time) (times_in waiting media) position)
