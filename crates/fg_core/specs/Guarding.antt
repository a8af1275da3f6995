-- What a turn wants to know of the state that it guards. No contract reads these lemmas.
use Rattle.std.specs.Prelude.{List, [], ◌++◌, map, Option, Some, None}
use Rattle.std.proofs.Common.{subst, sym}
use Rattle.std.proofs.lemmas.List.{map-append}
use Rattle.std.proofs.lemmas.List.Elements.{All-nil, All-append}
use Rattle.std.specs.List.{All}
use Rattle.fg_core.specs.Board.{BoardState}
use Rattle.fg_core.specs.Views.{Told, IsBorneOut}
use Rattle.fg_core.specs.Codes.{Entry, told_from, GrowsFrom}
use Rattle.fg_core.specs.Steps.{IsStep, CarriesOn}

-- Every step carries on what the entries make of the board, and what was told.
pub step_carries_on : (entry : Option Entry) (old new : BoardState) → IsStep entry old new → CarriesOn entry old new
step_carries_on None old new step = step.1
step_carries_on (Some entry) old new step = step.1

-- Nothing was told, and what two lists tell.
pub nothing_grows : (board : BoardState) → GrowsFrom [] board
nothing_grows board = All-nil (IsBorneOut board)

pub both_grow : (first second : List Entry) (board : BoardState) → GrowsFrom first board → GrowsFrom second board
    → GrowsFrom (first ++ second) board
both_grow first second board one other =
    subst (λ (told : List Told). All (IsBorneOut board) told) (sym (map-append told_from first second))
    (All-append (IsBorneOut board) (map told_from first) (map told_from second) one other)
