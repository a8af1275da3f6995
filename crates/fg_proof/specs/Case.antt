-- The case of a gap: what a desk had when a window was played. This project's own.
use Rattle.std.specs.Prelude.{◌≡◌, ℕ, IsSome}
use Rattle.fg_playout.specs.State.{State, known}
use Rattle.fg_runs.specs.Runs.{AreRunsOf}
use Rattle.fg_closure.specs.Holes.{IsHole, rules_of}
use Rattle.fg_proof.specs.declared.case.Case.{Case}

-- The case of the flow on this port, for this desk and a window of so many positions: the positions of all kept and received
-- words, the slots of all live equations in the order of admission, and all positions that are looked at and follow from
-- neither.
pub record IsCase (port : ℕ) (desk : State) (count : ℕ) (case : Case) : Type 0 where
  pub port_is : case.port ≡ port
  pub mark_is : case.mark ≡ desk.mark
  pub count_is : case.count ≡ count
  pub known_are : AreRunsOf (λ position. IsSome (known desk position)) case.known
  pub lines_are : case.lines ≡ rules_of desk
  pub holes_are : AreRunsOf (IsHole desk count) case.holes
