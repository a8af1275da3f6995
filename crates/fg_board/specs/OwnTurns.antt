-- The turns of an admitter, as its seat stands before them, inside and after them. No public contract cites it.
use Rattle.std.specs.Prelude.{◌≡◌, ◌+◌, ◌++◌, [], ◌∷◌, false, true, Some}
use Rattle.fg_core.specs.Board.{BoardState}
use Rattle.fg_core.specs.Codes.{call_code, told_code, IsOwnedBy, GrowsFrom}
use Rattle.fg_core.specs.Core.{Call}
use Rattle.fg_core.specs.Views.{seen_of}
use Rattle.fg_board.specs.Actors.{AdmitterState, desk_of}
use Rattle.fg_board.specs.declared.admitter.own_seat.OwnSeat.{OwnSeat}

-- The admitter that has this seat.
abbrev pub standing : OwnSeat → AdmitterState
standing own = record { seat = own.owner; playout = record { window = own.window; depth = own.depth; hold = own.hold } }

-- It entered this state, whose desk is its own.
pub record Enters (old : OwnSeat) (entered : BoardState) (inner : OwnSeat) : Type 0 where
  pub own : entered.desk.state ≡ desk_of (standing old)
  pub owned : IsOwnedBy old.owner.calls entered
  pub grows : GrowsFrom old.owner.told entered
  pub inner_is :
      inner
      ≡ record old { owner = record old.owner { turns = old.owner.turns + 1; inside = true; entered = Some entered } }

-- It left the state that this call made, and its calls so far make that state.
pub record Leaves (inner : OwnSeat) (call : Call) (left : BoardState) (new : OwnSeat) : Type 0 where
  pub left_owned : IsOwnedBy new.owner.calls left
  pub new_is :
      new
      ≡ record inner {
        owner = record inner.owner {
          calls = inner.owner.calls ++ call_code call ∷ [];
          told = inner.owner.told ++ told_code (seen_of left) ∷ [];
          inside = false;
          left = Some left;
        };
      }
