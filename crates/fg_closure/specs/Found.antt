-- What is found around a desk's mark: this project's own.
use Rattle.std.specs.Prelude.{◌≡◌, ◌≤◌, ◌↔◌, ℕ, Some, None, IsSome, slice_index_or}
use Rattle.fg_playout.specs.State.{State, known}
use Rattle.fg_playout.specs.Solution.{InClosure}
use Rattle.fg_playout.specs.Facts.{Holds}
use Rattle.fg_closure.specs.declared.search.LineSlots.{LineSlots}
use Rattle.fg_closure.specs.declared.closure.Closure.{Closure}
use Rattle.fg_closure.specs.Flags.{IsFlagged, IsLineAt}

-- A closure that was found of a desk: exactly the positions with a kept or a received word are known there, and exactly those
-- of the desk's closure are closed. At each place stands the live equation that has this place, and where none has it nothing.
pub record IsFoundOf (desk : State) (closure : Closure) : Type 0 where
  pub facts : Holds desk
  pub depth : desk.playout.depth ≤ 1000
  pub mark_is : closure.mark ≡ desk.mark
  pub known : (position : ℕ) → IsFlagged closure.first closure.known.items position ↔ IsSome (known desk position)
  pub closed : (position : ℕ) → IsFlagged closure.first closure.closed.items position ↔ InClosure desk position
  pub lines : (place : ℕ) (line : LineSlots) → (slice_index_or closure.lines.items place None ≡ Some line) ↔ IsLineAt desk place line
