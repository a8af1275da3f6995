-- What every play does, and what it rests on. No public contract cites it.
use Rattle.std.specs.Prelude.{◌≡◌, ◌↔◌, ℕ, Bool, IsTrue}
use Rattle.fg_peel.specs.Laws.{FoundKeepsClosure, FoundKeepsSolutions, MaximalPeelingsEndAtClosure, PeelingsAppend, PeelingsKeepWords, SolutionsKeepPeelings}
use Rattle.fg_hold.specs.Waiting.{WaitingState}
use Rattle.fg_playout.specs.declared.reply.Outcome.TheVariants.{Repaired}
use Rattle.fg_playout.specs.Laws.{SolvedStaysPeeled}
use Rattle.fg_buffer.specs.PlayoutBuffer.{BufferState, IsBuffer}
use Rattle.fg_buffer.specs.LiveEquations.{LiveState}
use Rattle.fg_desk.specs.declared.desk.Played.{Played}
use Rattle.fg_desk.specs.Contents.{epoch_after}
use Rattle.fg_desk.specs.Holding.{Moves}
use Rattle.fg_desk.specs.Storage.{Closes}

-- The laws by which what was found before a play is the closure and the solution, and stays so.
pub record PlayLaws : Type 0 where
  pub closure : FoundKeepsClosure
  pub solutions : FoundKeepsSolutions
  pub filled : MaximalPeelingsEndAtClosure
  pub keeps : PeelingsKeepWords
  pub appended : PeelingsAppend
  pub kept : SolutionsKeepPeelings
  pub stays : SolvedStaysPeeled

-- A play closes the first positions: it is repaired where what was found is a solution. The mark moves on for the words that
-- wait, too, and the epoch is that after the play.
pub record ClosesFirst (solved : Bool) (count : ℕ)
    (buffer : BufferState) (lines : LiveState) (waiting : WaitingState) (epoch : ℕ) (play : Played)
    (new : BufferState) (left : LiveState) (rest : WaitingState) (raised : ℕ) : Type 0 where
  pub facts : IsBuffer buffer
  pub first : play.first ≡ buffer.mark
  pub count_is : play.count ≡ count
  pub closes : Closes play.verdict count buffer lines new left
  pub outcome : (play.verdict ≡ Repaired) ↔ IsTrue solved
  pub moves : Moves waiting new.mark rest
  pub epoch_is : raised ≡ epoch_after epoch play.verdict
