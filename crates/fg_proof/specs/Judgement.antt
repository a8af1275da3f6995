-- How a case is judged. This project's own; that an equation gives a word where it has one unknown slot, and no other, is
-- SMPTE ST 2022-1's.
use Rattle.std.specs.Prelude.{◌≡◌, ◌≢◌, ◌+◌, ◌<◌, ◌≤◌, ℕ, List, slice_get, All, IsSomeAnd}
use Rattle.std.specs.List.{Contains}
use Rattle.fg_shape.specs.declared.Shape.{Shape}
use Rattle.fg_shape.specs.Shape.{IsShape, position_limit, slots_of}
use Rattle.fg_peel.specs.Verdict.{IsLeast}
use Rattle.fg_runs.specs.Runs.{run_end, AreApart, InRuns}
use Rattle.fg_proof.specs.declared.case.Case.{Case}
use Rattle.fg_proof.specs.declared.judging.Answer.{Answer}
use Rattle.fg_proof.specs.declared.judging.Answer.TheVariants.{Yes, Disorder, Known, Alone}

-- Runs are in order: they rise with gaps between them, none is empty, and none goes past the greatest position.
pub record AreInOrder (runs : List (ℕ × ℕ)) : Type 0 where
  pub apart : AreApart runs
  pub within : All (λ run. run_end run ≤ position_limit + 1) runs

-- The slots of an equation are: its shape is one that is read, and its base at most the greatest position.
pub record IsRule (rule : ℕ × Shape) : Type 0 where
  pub shape : IsShape rule.1.offset rule.1.na
  pub base : rule.0 ≤ position_limit

-- The window has a position that is claimed to be a hole.
abbrev pub ClaimsAGap : Case → Type 0
ClaimsAGap case =
    (position : ℕ) × (case.mark ≤ position) × (position < case.mark + case.count) × InRuns case.holes position

-- A case is in order.
pub record IsInOrder (case : Case) : Type 0 where
  pub known : AreInOrder case.known
  pub holes : AreInOrder case.holes
  pub lines : All IsRule case.lines
  pub claims : ClaimsAGap case

-- A position is told as known and as a hole.
abbrev pub IsBoth : Case → ℕ → Type 0
IsBoth case position = InRuns case.known position × InRuns case.holes position

-- One slot of an equation is a hole, and no other: then the equation gives its word.
pub record HasOneHole (holes : List (ℕ × ℕ)) (rule : ℕ × Shape) : Type 0 where
  pub slot : ℕ
  pub of_rule : Contains (slots_of rule.0 rule.1.offset rule.1.na) slot
  pub hole : InRuns holes slot
  pub others :
      (other : ℕ) → Contains (slots_of rule.0 rule.1.offset rule.1.na) other → other ≢ slot → ¬ InRuns holes other

-- The line of this number is such an equation.
abbrev pub IsAlone : Case → ℕ → Type 0
IsAlone case number = IsSomeAnd (slice_get case.lines number) (HasOneHole case.holes)

-- The answer: the first of these that is so. The case is out of order; a hole is known, and this is the least; an equation has one hole alone, and
-- this is the first; and else the holes are proved.
abbrev pub IsAnswer : Case → Answer → Type 0
IsAnswer case Disorder = ¬ IsInOrder case
IsAnswer case (Known position) = IsInOrder case × IsLeast (IsBoth case) position
IsAnswer case (Alone number) =
    IsInOrder case × ((position : ℕ) → ¬ IsBoth case position) × IsLeast (IsAlone case) number
IsAnswer case Yes =
    IsInOrder case × ((position : ℕ) → ¬ IsBoth case position) × ((number : ℕ) → ¬ IsAlone case number)
