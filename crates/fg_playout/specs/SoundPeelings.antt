-- What a play shows, told by peelings: one word after another is recovered, in any order. After SMPTE ST 2022-1, where one
-- parity datagram recovers one lost datagram; desks and plays are this project's own.
use Rattle.std.specs.Prelude.{◌≡◌, ◌≢◌, ◌+◌, ◌<◌, ◌≤◌, ◌↔◌, ◌++◌, ⊤, ℕ, List, [], ◌∷◌, length, slice_index_or, Option, None, IsSome}
use Rattle.std.specs.List.{Contains}
use Rattle.std.specs.FinMap.{get}
use Rattle.fg_words.specs.declared.Word.{Word}
use Rattle.fg_peel.specs.Equation.{AreAdmissible, slots}
use Rattle.fg_peel.specs.Peeling.{Step, IsPeeling, IsMaximal, IsSound, after_step, end_of}
use Rattle.fg_playout.specs.declared.reply.Outcome.TheVariants.{Repaired, Inconsistent}
use Rattle.fg_playout.specs.State.{State, known, live_equations}
use Rattle.fg_playout.specs.Solution.{IsSolution}
use Rattle.fg_playout.specs.Play.{Play, IsPlay, shown_at, nothing_shown}
use Rattle.fg_playout.specs.Facts.{Holds}

-- Peelings of a desk

-- A step can be made where these words are known. Its equation is live and has the position as a slot, the position isn't played
-- yet and has no word, and the equation's other slots all have one.
pub record CanBeMade (desk : State) (words : ℕ → Option Word) (step : Step) : Type 0 where
  pub live : Contains (live_equations desk) step.equation
  pub slot : Contains (slots step.equation) step.position
  pub ahead : desk.mark ≤ step.position
  pub unknown : words step.position ≡ None
  pub others_known :
      (other : ℕ) → Contains (slots step.equation) other → other ≢ step.position → IsSome (words other)

-- Steps that are made one after another where these words are known at first. Each gives its position the XOR of the equation's
-- parity word and the words at the other slots, and that word is known from then on.
abbrev pub AreStepsFrom : State → (ℕ → Option Word) → List Step → Type 0
AreStepsFrom desk words [] = ⊤
AreStepsFrom desk words (step ∷ steps) = CanBeMade desk words step × AreStepsFrom desk (after_step words step) steps

-- A peeling of the desk. Known before the first step are the kept and the received words.
abbrev pub IsPeelingOf : State → List Step → Type 0
IsPeelingOf desk steps = AreStepsFrom desk (known desk) steps

-- Its end: all words that are known after it.
abbrev pub end_on : State → List Step → ℕ → Option Word
end_on desk steps = end_of (known desk) steps

-- It is maximal where no step can be added.
pub record IsMaximalOn (desk : State) (steps : List Step) : Type 0 where
  pub peeling : IsPeelingOf desk steps
  pub no_more : (step : Step) → ¬ IsPeelingOf desk (steps ++ step ∷ [])

-- It is sound where its end is a solution of the desk.
abbrev pub IsSoundOn : State → List Step → Type 0
IsSoundOn desk steps = IsSolution desk (end_on desk steps)

-- Of a desk of which the facts hold, words and equations are such as the laws of `fg_peel` are about.
abbrev pub DesksAreAdmissible : Type 0
DesksAreAdmissible = (desk : State) → Holds desk → AreAdmissible (known desk) (live_equations desk)

-- On such a desk these are the peelings of `fg_peel`, which knows no mark: before the mark no slot of a live
-- equation is unknown.

abbrev pub PeelingsAreOfWords : Type 0
PeelingsAreOfWords =
    (desk : State) (steps : List Step) → Holds desk
    → IsPeelingOf desk steps ↔ IsPeeling (known desk) (live_equations desk) steps

abbrev pub MaximalAreOfWords : Type 0
MaximalAreOfWords =
    (desk : State) (steps : List Step) → Holds desk
    → IsMaximalOn desk steps ↔ IsMaximal (known desk) (live_equations desk) steps

abbrev pub SoundAreOfWords : Type 0
SoundAreOfWords =
    (desk : State) (steps : List Step) → Holds desk
    → IsSoundOn desk steps ↔ IsSound (known desk) (live_equations desk) steps

-- What a play shows of them

-- The play's window is so many positions from the desk's mark on, and each shows the word that is there of these words, and as
-- repaired where it wasn't received.
pub record WindowShows (desk : State) (count : ℕ) (play : Play) (words : ℕ → Option Word) : Type 0 where
  pub first : play.first ≡ desk.mark
  pub length_is : length play.shown ≡ count
  pub each :
      (i : ℕ) → i < count → slice_index_or play.shown i nothing_shown ≡ shown_at desk words (desk.mark + i)

-- The window shows what every sound peeling of the desk gives, or the received words alone where no peeling is sound.
pub record ShowsSoundPeelings (desk : State) (count : ℕ) (play : Play) : Type 0 where
  -- The desk's words and equations are such as the laws of peelings are about.
  pub admissible : AreAdmissible (known desk) (live_equations desk)
  -- There is a maximal peeling, and every sound one is maximal.
  pub exists : (steps : List Step) × IsMaximalOn desk steps
  pub sound_is_maximal : (steps : List Step) → IsPeelingOf desk steps → IsSoundOn desk steps → IsMaximalOn desk steps
  -- The play is repaired exactly where a maximal peeling is sound, and that is where every one is.
  pub repaired : (play.outcome ≡ Repaired) ↔ ((steps : List Step) × IsMaximalOn desk steps × IsSoundOn desk steps)
  pub all_repaired : (play.outcome ≡ Repaired) ↔ ((steps : List Step) → IsMaximalOn desk steps → IsSoundOn desk steps)
  -- Every sound maximal peeling ends in the words that the window shows.
  pub shows :
      (steps : List Step) → IsMaximalOn desk steps → IsSoundOn desk steps
      → WindowShows desk count play (end_on desk steps)
  -- The play is inconsistent exactly where no peeling is sound, and then the window shows the received words alone.
  pub inconsistent : (play.outcome ≡ Inconsistent) ↔ ((steps : List Step) → IsPeelingOf desk steps → ¬ IsSoundOn desk steps)
  pub received : play.outcome ≡ Inconsistent → WindowShows desk count play (get desk.media)

-- That is so of each play on a desk of which the facts hold.
abbrev pub PlaysShowSoundPeelings : Type 0
PlaysShowSoundPeelings =
    (count : ℕ) (desk new : State) (play : Play) → Holds desk → IsPlay count desk play new
    → ShowsSoundPeelings desk count play
