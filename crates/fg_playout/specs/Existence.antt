-- Every call has an outcome, and every flow has a run.
use Rattle.std.specs.Prelude.{◌⊎◌, ◌≤◌, ℕ, List, Option}
use Rattle.std.specs.List.{All}
use Rattle.fg_words.specs.declared.Word.{Word}
use Rattle.fg_shape.specs.Playout.{Playout}
use Rattle.fg_peel.specs.Laws.{MaximalPeelingExists, MaximalPeelingsEndAtClosure, MaximalPeelingsAreTested, SoundWhereSolvable}
use Rattle.fg_playout.specs.declared.reply.Reply.{Reply}
use Rattle.fg_playout.specs.State.{State, opening}
use Rattle.fg_playout.specs.Solution.{IsSolution}
use Rattle.fg_playout.specs.Admission.{Parity, AdmitsMedia, AdmitsParity}
use Rattle.fg_playout.specs.Play.{Play, IsPlay, Flushes}
use Rattle.fg_playout.specs.Held.{IsHeldStep}
use Rattle.fg_playout.specs.Run.{Arrival, ArePlaysHeld, ArePlaysDue, ArePlaysBefore, TakesAll, IsFlush, IsRun}
use Rattle.fg_playout.specs.Facts.{Holds}
use Rattle.fg_playout.specs.Laws.{IsRead}

-- What of the laws of peelings this rests on: there is a maximal one, it ends at the closure, whether it is sound can be
-- told, and it is exactly where there is a solution.
pub record PeelingLaws : Type 0 where
  pub exists : MaximalPeelingExists
  pub filled : MaximalPeelingsEndAtClosure
  pub tested : MaximalPeelingsAreTested
  pub solvable : SoundWhereSolvable

-- Each desk has a solution, or it has none.
abbrev pub SolutionsAreDecided : Type 0
SolutionsAreDecided =
    (desk : State) → Holds desk
    → ((words : ℕ → Option Word) × IsSolution desk words) ⊎ ((words : ℕ → Option Word) → ¬ IsSolution desk words)

-- Each call has an outcome: a reply or a play, and a desk after it.

abbrev pub MediaHasOutcome : Type 0
MediaHasOutcome =
    (old : State) (seq ssrc : ℕ) (word : Word)
    → (reply : Reply) × (new : State) × AdmitsMedia old seq ssrc word reply new

abbrev pub ParityHasOutcome : Type 0
ParityHasOutcome = (old : State) (parity : Parity) → (reply : Reply) × (new : State) × AdmitsParity old parity reply new

abbrev pub PlayHasOutcome : Type 0
PlayHasOutcome = (count : ℕ) (old : State) → Holds old → (play : Play) × (new : State) × IsPlay count old play new

abbrev pub FlushHasOutcome : Type 0
FlushHasOutcome = (old : State) → Holds old → (play : Option Play) × (new : State) × Flushes old play new

abbrev pub HeldStepHasOutcome : Type 0
HeldStepHasOutcome = (old : State) (time : ℕ) → Holds old → (play : Option Play) × (new : State) × IsHeldStep old time play new

-- Before each datagram only so many windows are due, and a flush ends. So what is played before a datagram comes to an end.

abbrev pub PlaysDueExist : Type 0
PlaysDueExist =
    (old : State) (seq ssrc : ℕ) → Holds old → (plays : List Play) × (new : State) × ArePlaysDue old seq ssrc plays new

abbrev pub FlushExists : Type 0
FlushExists = (old : State) → Holds old → (plays : List Play) × (new : State) × IsFlush old plays new

abbrev pub PlaysBeforeExist : Type 0
PlaysBeforeExist =
    (old : State) (seq ssrc : ℕ) → Holds old → (plays : List Play) × (new : State) × ArePlaysBefore old seq ssrc plays new

abbrev pub PlaysHeldExist : Type 0
PlaysHeldExist =
    (old : State) (time : ℕ) → Holds old → (plays : List Play) × (new : State) × ArePlaysHeld old time plays new

-- Datagrams are taken by a new desk, whatever they are.
abbrev pub TakingsExist : Type 0
TakingsExist =
    (playout : Playout) (arrivals : List Arrival) → 1 ≤ playout.window → All IsRead arrivals
    → (plays : List Play) × (replies : List (Option Reply)) × (new : State)
    × TakesAll (opening playout) arrivals plays replies new

-- Every flow has a run, at every depth and at every window of one position or more.
abbrev pub RunsExist : Type 0
RunsExist =
    (playout : Playout) (arrivals : List Arrival) → 1 ≤ playout.window → All IsRead arrivals
    → (plays : List Play) × (replies : List (Option Reply)) × IsRun playout arrivals plays replies
