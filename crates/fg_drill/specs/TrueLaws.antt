-- What a run of true datagrams shows.
use Rattle.std.specs.Prelude.{◌≡◌, ◌<◌, ℕ, true, false, List, slice_index_or, Option, Some, None}
use Rattle.std.specs.List.{All}
use Rattle.fg_shape.specs.Playout.{Playout}
use Rattle.fg_words.specs.declared.Word.{Word}
use Rattle.fg_playout.specs.declared.reply.Reply.{Reply}
use Rattle.fg_playout.specs.declared.reply.Outcome.TheVariants.{Repaired}
use Rattle.fg_peel.specs.Laws.{SolutionsAreTrue, TruthIsSolvable}
use Rattle.fg_playout.specs.Laws.{FactsAreKept, LiveStandUnderSerials, MediaAdds, ParityAdds, RunsStayWithin, SolutionsArePeelings, TakingsJoin}
use Rattle.fg_playout.specs.Play.{Play, nothing_shown}
use Rattle.fg_playout.specs.Run.{Arrival, IsRun}
use Rattle.fg_results.specs.Flow.{all_shown}
use Rattle.fg_drill.specs.Repaired.{ArrivalsPeel, is_shown}
use Rattle.fg_drill.specs.True.{AreInFull, AreSentTrue}

-- What the laws rest on: it holds of every run, and of the equations on its desks.
pub record RunsAreLawful : Type 0 where
  pub stand : LiveStandUnderSerials
  pub peelings : SolutionsArePeelings
  pub solvable : TruthIsSolvable
  pub found : SolutionsAreTrue
  pub media_adds : MediaAdds
  pub parity_adds : ParityAdds
  pub keeps : FactsAreKept
  pub within : RunsStayWithin
  pub join : TakingsJoin

-- Every play is repaired.
abbrev pub TrueRunsAreRepaired : Type 0
TrueRunsAreRepaired =
    (playout : Playout) (seq ssrc : ℕ) (truth : ℕ → Option Word) (arrivals : List Arrival) (plays : List Play)
    (replies : List (Option Reply))
    → AreSentTrue playout seq ssrc truth arrivals → IsRun playout arrivals plays replies
    → All (λ play. play.outcome ≡ Repaired) plays

-- Each word that is shown is the true one of its slot.
abbrev pub TrueRunsShowTheTruth : Type 0
TrueRunsShowTheTruth =
    (playout : Playout) (seq ssrc : ℕ) (truth : ℕ → Option Word) (arrivals : List Arrival) (plays : List Play)
    (replies : List (Option Reply))
    → AreSentTrue playout seq ssrc truth arrivals → IsRun playout arrivals plays replies
    → (slot : ℕ) (word : Word)
    → (slice_index_or (all_shown plays) slot nothing_shown).word ≡ Some word → truth slot ≡ Some word

-- So no slot is shown that has no true word.
abbrev pub NothingElseIsShown : Type 0
NothingElseIsShown =
    (playout : Playout) (seq ssrc : ℕ) (truth : ℕ → Option Word) (arrivals : List Arrival) (plays : List Play)
    (replies : List (Option Reply))
    → AreSentTrue playout seq ssrc truth arrivals → IsRun playout arrivals plays replies
    → (slot : ℕ) → truth slot ≡ None → is_shown plays slot ≡ false

-- Where arrivals of so many slots peel, each of these is shown.
abbrev pub PeeledSlotsAreShown : Type 0
PeeledSlotsAreShown =
    (playout : Playout) (seq ssrc count : ℕ) (truth : ℕ → Option Word) (arrivals : List Arrival) (plays : List Play)
    (replies : List (Option Reply))
    → AreSentTrue playout seq ssrc truth arrivals → IsRun playout arrivals plays replies
    → ArrivalsPeel playout arrivals count
    → (slot : ℕ) → slot < count → is_shown plays slot ≡ true

-- True datagrams of so many slots peel where no media datagram is missing, at every playout.
abbrev pub FullArrivalsPeel : Type 0
FullArrivalsPeel =
    (playout : Playout) (seq ssrc count : ℕ) (truth : ℕ → Option Word) (arrivals : List Arrival)
    → AreSentTrue playout seq ssrc truth arrivals → AreInFull seq ssrc count 0 arrivals
    → ArrivalsPeel playout arrivals count
