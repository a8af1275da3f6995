-- What contracts see of a board, its admitter, its passes and their jobs, and what one turn of theirs is. This project's
-- own.
use Rattle.std.specs.Prelude.{◌≡◌, ◌≢◌, ◌+◌, ◌<◌, ℕ, Bool, List, [], ◌∷◌, ◌++◌, map, Option, Some, None, IsSomeAnd, MatchOption}
use Rattle.std.specs.List.{All, Contains}
use mathlib.Core.List.{IsPrefix}
use Rattle.std.specs.FinMap.{get}
use Rattle.fg_words.specs.declared.Word.{Word}
use Rattle.fg_shape.specs.Playout.{Playout}
use Rattle.fg_playout.specs.declared.reply.Reply.{Reply}
use Rattle.fg_playout.specs.declared.reply.Reply.TheVariants.{Admitted}
use Rattle.fg_playout.specs.State.{State}
use Rattle.fg_playout.specs.Admission.{live_limit}
use Rattle.fg_peel.specs.Equation.{Equation}
use Rattle.fg_turn.specs.Standing.{Standing}
use Rattle.fg_core.specs.Board.{BoardState, JobState, opened_board}
use Rattle.fg_core.specs.Views.{Told, IsWorked, IsChecked, seen_of, told_of_job}
use Rattle.fg_core.specs.Core.{Call, Event, CanDo, IsCall, IsEvent, IsOwned, Tells}
use Rattle.fg_core.specs.declared.key.Key.{Key}
use Rattle.fg_core.specs.Codes.{Entry, call_code, call_from, told_code, told_from, opening_code, IsOwnedBy, GrowsFrom}

-- Passes

-- A pass went on to a later standing: it is the same one, and was told what it was told before.
pub record IsLater (earlier later : Standing BoardState) : Type 0 where
  pub turn : later.turn ≡ earlier.turn
  pub number : later.number ≡ earlier.number
  pub told : IsPrefix earlier.told later.told

-- One turn of a pass: one event, from the state that it entered to the one that it left. What was entered is what the
-- admitter's calls so far made of the board, and has grown from all that the pass was told. By that the pass could do the
-- event, and it was told what the answer tells.
pub record TakesTurn (event : Event) (old new : Standing BoardState) : Type 0 where
  pub turn : new.turn ≡ old.turn
  pub number : new.number ≡ old.number
  pub turns : new.turns ≡ old.turns + 1
  pub entered : BoardState
  pub entered_is : new.entered ≡ Some entered
  pub left : BoardState
  pub left_is : new.left ≡ Some left
  pub can : CanDo (map told_from old.told) event
  pub event_is : IsEvent entered event left
  pub calls : IsPrefix old.calls new.calls
  pub owned : IsOwnedBy new.calls entered
  pub grows : GrowsFrom old.told entered
  pub told : List Told
  pub tells : Tells left event told
  pub told_is : new.told ≡ old.told ++ map told_code (seen_of left ∷ told)

-- One turn that found no memory, which changed nothing and told nothing. What was entered is what it is in every turn.
pub record TakesNoTurn (old new : Standing BoardState) : Type 0 where
  pub turn : new.turn ≡ old.turn
  pub number : new.number ≡ old.number
  pub turns : new.turns ≡ old.turns + 1
  pub entered : BoardState
  pub entered_is : new.entered ≡ Some entered
  pub same : new.left ≡ new.entered
  pub calls : IsPrefix old.calls new.calls
  pub owned : IsOwnedBy new.calls entered
  pub grows : GrowsFrom old.told entered
  pub told : new.told ≡ old.told

-- Jobs

-- A job as contracts see it: the pass that took it, as it stood then, and what it is.
pub record TakenJob : Type 0 where
  pub taken : Standing BoardState
  pub job : JobState

-- Its pass was told all that it tells.
abbrev pub WasTold : TakenJob → Type 0
WasTold taken = All (λ told. Contains (map told_from taken.taken.told) told) (told_of_job taken.job)

-- The word of its one slot that had none follows from what its pass was told, at each later standing of the pass.
abbrev pub IsWorkedBy : TakenJob → ℕ → Word → Type 0
IsWorkedBy taken slot word =
    (later : Standing BoardState) → IsLater taken.taken later
    → (equation : Equation) × IsWorked (map told_from later.told) taken.job.key equation slot word

-- And so does whether its equation comes out, where all slots had words.
abbrev pub IsCheckedBy : TakenJob → Bool → Type 0
IsCheckedBy taken zero =
    (later : Standing BoardState) → IsLater taken.taken later
    → (equation : Equation) × IsChecked (map told_from later.told) taken.job.key equation zero

-- The admitter

-- The admitter as contracts see it: its seat, and the settings of its board.
pub record AdmitterState : Type 0 where
  pub seat : Standing BoardState
  pub playout : Playout

-- The board that it left last, which is a new one before its first call.
abbrev pub board_of : AdmitterState → BoardState
board_of admitter = elim admitter.seat.left as (λ _. BoardState) [
  | None ↦ opened_board admitter.playout
  | Some left ↦ left
]

-- The desk that its calls have made.
abbrev pub desk_of : AdmitterState → State
desk_of admitter = (board_of admitter).desk.state

-- That board is what its calls make of an empty desk, whatever passes did between them.
abbrev pub IsOwnBoard : AdmitterState → Type 0
IsOwnBoard admitter =
    (entries : List Entry) × (admitter.seat.calls ≡ opening_code admitter.playout ∷ entries)
    × IsOwned admitter.playout (map call_from entries) (board_of admitter)

-- One turn of the admitter: one call, from the state that it entered, whose desk is its own, to the one that it left.
-- What was entered is what its calls so far made of the board, and has grown from all that it was told. What was left is
-- what its calls made with this one.
pub record MakesCall (call : Call) (old new : AdmitterState) : Type 0 where
  pub playout : new.playout ≡ old.playout
  pub turn : new.seat.turn ≡ old.seat.turn
  pub made : new.seat.made ≡ old.seat.made
  pub seated : new.seat.seated ≡ old.seat.seated
  pub turns : new.seat.turns ≡ old.seat.turns + 1
  pub entered : BoardState
  pub entered_is : new.seat.entered ≡ Some entered
  pub own : entered.desk.state ≡ desk_of old
  pub owned : IsOwnedBy old.seat.calls entered
  pub grows : GrowsFrom old.seat.told entered
  pub left : BoardState
  pub left_is : new.seat.left ≡ Some left
  pub call_is : IsCall entered call left
  pub left_owned : IsOwnedBy new.seat.calls left
  pub calls : new.seat.calls ≡ old.seat.calls ++ call_code call ∷ []
  pub told : new.seat.told ≡ old.seat.told ++ told_code (seen_of left) ∷ []

-- A key that a call gave is that of the equation which it admitted: it has the equation's serial number, its place, which is
-- one of 512, and the epoch at the end of the call.
pub record IsKeyGiven (old : AdmitterState) (key : Key) (new : AdmitterState) : Type 0 where
  pub serial : key.serial ≡ (desk_of old).admitted
  pub live : IsSomeAnd (get (desk_of new).equations key.serial) (λ live. live.place ≡ key.place)
  pub place : key.place < live_limit
  pub epoch : key.epoch ≡ (board_of new).desk.epoch

-- A call gives a key with an equation that it admits, and with no other reply.
abbrev pub GivesKeyOf : AdmitterState → Reply → Option Key → AdmitterState → Type 0
GivesKeyOf old reply key new =
    MatchOption key (reply ≢ Admitted) (λ key. (reply ≡ Admitted) × IsKeyGiven old key new)
