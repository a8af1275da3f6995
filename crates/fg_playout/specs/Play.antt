-- What a play shows, and what the desk is then. This project's own.
use Rattle.std.specs.Prelude.{◌≡◌, ◌+◌, ◌-◌, ◌<◌, ◌≤◌, ◌↔◌, ℕ, ◌&&◌, not, is_some, List, length, min, slice_index_or, nat_lt, nat_le, Option, Some, None, if◌then◌else◌}
use Rattle.std.specs.FinMap.{get}
use Rattle.fg_words.specs.declared.Word.{Word}
pub use Rattle.fg_peel.specs.Words.{IsGreatest}
pub use Rattle.fg_peel.specs.Live.{Survives}
pub use Rattle.fg_playout.specs.Shown.{Shown, nothing_shown}
use Rattle.fg_playout.specs.declared.reply.Outcome.{Outcome}
use Rattle.fg_playout.specs.declared.reply.Outcome.TheVariants.{Repaired, Inconsistent}
use Rattle.fg_playout.specs.State.{State, Live}
use Rattle.fg_playout.specs.Admission.{kept_count, counted}
use Rattle.fg_playout.specs.Solution.{InClosure, IsSolution}

-- A play: its first position, what each position from there on shows, and its outcome.
pub record Play : Type 0 where
  pub first : ℕ
  pub shown : List Shown
  pub outcome : Outcome

-- The outcome and the words of a play. Where the desk has a solution, it is repaired and the words are the solution's.
-- Else it is inconsistent, and the words are those received.
abbrev pub Decides : State → Outcome → (ℕ → Option Word) → Type 0
Decides desk Repaired words = IsSolution desk words
Decides desk Inconsistent words =
    ((solution : ℕ → Option Word) → ¬ IsSolution desk solution) × (words ≡ get desk.media)

-- What a position shows, of these words.
abbrev pub shown_at : State → (ℕ → Option Word) → ℕ → Shown
shown_at desk words position = record {
  word = words position;
  repaired = is_some (words position) && not (is_some (get desk.media position));
}

-- A play of `count` positions from the mark on.
pub record IsPlay (count : ℕ) (old : State) (play : Play) (new : State) : Type 0 where
  pub words : ℕ → Option Word
  pub decides : Decides old play.outcome words
  pub first : play.first ≡ old.mark
  pub length_is : length play.shown ≡ count
  pub shows :
      (i : ℕ) → i < count → slice_index_or play.shown i nothing_shown ≡ shown_at old words (old.mark + i)
  -- The mark moves past the window.
  pub mark : new.mark ≡ old.mark + count
  -- What was kept and what is shown is kept at the 100 positions before the new mark.
  pub kept :
      (position : ℕ) → get new.kept position
      ≡ (if nat_lt position new.mark && nat_le new.mark (position + kept_count) then
      (if nat_lt position old.mark then get old.kept position else words position) else None)
  -- Received words are left at the new mark and past it.
  pub media :
      (position : ℕ) → get new.media position ≡ (if nat_lt position new.mark then None else get old.media position)
  pub times :
      (position : ℕ) → get new.times position ≡ (if nat_lt position new.mark then None else get old.times position)
  -- After a repaired play those equations that survive it are left, and after an inconsistent one none.
  pub equations :
      (serial : ℕ) (live : Live) → (get new.equations serial ≡ Some live)
      ↔ ((get old.equations serial ≡ Some live) × (play.outcome ≡ Repaired) × Survives new.mark new.kept live.equation)
  pub rest :
      new ≡ record (counted old) {
        mark = new.mark;
        kept = new.kept;
        media = new.media;
        times = new.times;
        equations = new.equations;
      }

-- The closure has a position that isn't played yet: a flush step is defined.
abbrev pub HasMore : State → Type 0
HasMore desk = (position : ℕ) × InClosure desk position × (desk.mark ≤ position)

-- The highest position of the closure.
abbrev pub IsHighest : State → ℕ → Type 0
IsHighest desk = IsGreatest (InClosure desk)

-- A flush step plays up to the closure's highest position, and at most a window.
pub record IsFlushStep (old : State) (play : Play) (new : State) : Type 0 where
  pub highest : ℕ
  pub highest_is : IsHighest old highest
  pub more : old.mark ≤ highest
  pub plays : IsPlay (min old.playout.window (highest + 1 - old.mark)) old play new

-- A call of a flush step: a step where one is defined, and else the desk is as it was.
abbrev pub Flushes : State → Option Play → State → Type 0
Flushes old None new = (¬ HasMore old) × (new ≡ counted old)
Flushes old (Some play) new = IsFlushStep old play new
