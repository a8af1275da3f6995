use Rattle.std.proofs.Common.{◌≡◌, ◌<◌, ℕ, false, get_or, IsSome}
use Rattle.std.specs.FinSet.{contains}
use Rattle.fg_peel.specs.Equation.{slots}
use Rattle.fg_peel.specs.Slots.{equation_of}
use Rattle.fg_desk.specs.Contents.{known_in}
use Rattle.fg_core.proofs.open.are_shared.Given as goal

abbrev pub invariant-loop-j : goal.invariant-loop-j
invariant-loop-j l =
    (k : ℕ) → k < l.j → IsSome (known_in l.desk (get_or (slots (equation_of l.line)) k 0))
    → contains l.desk.bare (get_or (slots (equation_of l.line)) k 0) ≡ false
