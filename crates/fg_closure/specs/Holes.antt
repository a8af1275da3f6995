-- The positions ahead of a desk's mark that don't follow from its words and equations: this project's own, over the closure of
-- SMPTE ST 2022-1's equations.
use Rattle.std.specs.Prelude.{◌+◌, ◌<◌, ◌≤◌, ◌⊎◌, ℕ, List, map}
use Rattle.std.specs.List.{Contains}
use Rattle.fg_shape.specs.declared.Shape.{Shape}
use Rattle.fg_peel.specs.Equation.{Equation}
use Rattle.fg_peel.specs.Live.{last_slot}
use Rattle.fg_playout.specs.State.{State, live_equations}
use Rattle.fg_playout.specs.Solution.{InClosure}

-- A position that is looked at, for a window of so many positions: from the mark on, in the window, or no farther than the last
-- slot of a live equation.
pub record IsLookedAt (desk : State) (count position : ℕ) : Type 0 where
  pub ahead : desk.mark ≤ position
  pub near :
      (position < desk.mark + count)
      ⊎ ((equation : Equation) × Contains (live_equations desk) equation × (position ≤ last_slot equation))

-- A hole: such a position that isn't in the closure.
pub record IsHole (desk : State) (count position : ℕ) : Type 0 where
  pub looked_at : IsLookedAt desk count position
  pub underivable : ¬ InClosure desk position

-- The window has a position that isn't in the closure: a play of it that is repaired shows it as missing.
abbrev pub HasMissing : State → ℕ → Type 0
HasMissing desk count =
    (position : ℕ) × (desk.mark ≤ position) × (position < desk.mark + count) × (¬ InClosure desk position)

-- The slots of an equation, as its base and shape.
abbrev pub rule_of : Equation → ℕ × Shape
rule_of equation = (equation.base, record { offset = equation.offset; na = equation.count })

-- Those of a desk's live equations, in the order of admission.
abbrev pub rules_of : State → List (ℕ × Shape)
rules_of desk = map rule_of (live_equations desk)
