-- The laws of turns: a pass goes on, its turns are steps of the core, and what it brings follows from what it was told and is
-- found again.
use Rattle.std.specs.Prelude.{◌≡◌, ◌⊎◌, ◌↔◌, ⊤, ℕ, Bool, map, Some, IsTrue}
use Rattle.std.specs.FinMap.{get}
use Rattle.fg_words.specs.declared.Word.{Word}
use Rattle.fg_words.specs.Word.{zero_word, HasRoom}
use Rattle.fg_peel.specs.declared.span.Missing.TheVariants.{One}
use Rattle.fg_peel.specs.Equation.{IsComplete}
use Rattle.fg_peel.specs.Slots.{IsMissing}
use Rattle.fg_turn.specs.Standing.{Standing}
use Rattle.fg_core.specs.Board.{BoardState, JobState, job_sum}
use Rattle.fg_core.specs.Codes.{told_from}
use Rattle.fg_core.specs.Core.{Event, publish, look, offer, World, pass, IsTurn}
use Rattle.fg_core.specs.Views.{IsWorked, IsChecked}
use Rattle.fg_core.specs.declared.key.Key.{Key}
use Rattle.fg_core.specs.declared.fate.Fate.TheVariants.{Done}
use Rattle.fg_core.specs.declared.fate.Look.{Look}
use Rattle.fg_core.specs.declared.fate.Look.TheVariants as looked
use Rattle.fg_board.specs.Actors.{IsLater, TakesTurn, TakesNoTurn, TakenJob, WasTold}

-- A standing is a later one of itself, and each turn leads to a later one.

abbrev pub EachIsLater : Type 0
EachIsLater = (standing : Standing BoardState) → IsLater standing standing

abbrev pub TurnsGoOn : Type 0
TurnsGoOn =
    (event : Event) (first old new : Standing BoardState) → IsLater first old → TakesTurn event old new → IsLater first new

abbrev pub NoTurnsGoOn : Type 0
NoTurnsGoOn = (first old new : Standing BoardState) → IsLater first old → TakesNoTurn old new → IsLater first new

-- Where the board and what the pass was told stand in a world as they do where the pass enters, its turn is one step of a
-- run of the core, to a world in which they stand as they do afterwards.
abbrev pub TurnsAreOfTheCore : Type 0
TurnsAreOfTheCore =
    (event : Event) (old new : Standing BoardState) (turn : TakesTurn event old new) (world : World)
    → world.board ≡ turn.entered → world.views old.number ≡ map told_from old.told
    → (next : World) × IsTurn world (pass old.number event) next × (next.board ≡ turn.left)
    × (next.views old.number ≡ map told_from new.told)

-- What a job's inputs give follows from what its pass was told, and still does later: the word of the one slot without one,
abbrev pub JobsAreWorked : Type 0
JobsAreWorked =
    (taken : TakenJob) (later : Standing BoardState) (slot : ℕ) → WasTold taken → IsLater taken.taken later
    → IsMissing (get taken.job.inputs) taken.job.equation (One slot)
    → IsWorked (map told_from later.told) taken.job.key taken.job.equation slot (job_sum taken.job)

-- The words of a job have room.
abbrev pub HaveRoom : JobState → Type 0
HaveRoom job =
    HasRoom job.equation.parity × ((slot : ℕ) (word : Word) → get job.inputs slot ≡ Some word → HasRoom word)

-- and whether the equation comes out, where each slot has one.
abbrev pub JobsAreChecked : Type 0
JobsAreChecked =
    (taken : TakenJob) (later : Standing BoardState) (comes : Bool) → WasTold taken → IsLater taken.taken later
    → HaveRoom taken.job → IsComplete (get taken.job.inputs) taken.job.equation
    → (IsTrue comes ↔ (job_sum taken.job ≡ zero_word))
    → IsChecked (map told_from later.told) taken.job.key taken.job.equation comes

-- A look gives this word, or tells that the key's equation is gone.
abbrev pub FindsOrIsGone : Word → Look → Type 0
FindsOrIsGone word (looked.Known found) = found ≡ word
FindsOrIsGone word looked.Unknown = ⊥
FindsOrIsGone word (looked.Gone mark epoch) = ⊤

-- So a pass whose word was taken finds it by each later look with the same key, or hears that the equation is gone.
abbrev pub BroughtWordsAreFound : Type 0
BroughtWordsAreFound =
    (key : Key) (slot : ℕ) (word : Word) (answer : Look) (old new later last : Standing BoardState)
    → TakesTurn (publish key slot word Done) old new ⊎ TakesTurn (offer key slot word Done) old new → IsLater new later
    → TakesTurn (look key (Some slot) answer) later last → FindsOrIsGone word answer
