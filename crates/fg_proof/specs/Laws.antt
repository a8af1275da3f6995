-- What shows that the definitions of a case and of its judgement are right.
use Rattle.std.specs.Prelude.{◌≡◌, ◌≤◌, ℕ, List, IsSome}
use Rattle.std.specs.List.{Contains}
use Rattle.fg_peel.specs.Equation.{Equation}
use Rattle.fg_peel.specs.Peeling.{Step, IsPeeling, end_of}
use Rattle.fg_playout.specs.State.{State, known, live_equations}
use Rattle.fg_playout.specs.Solution.{InClosure}
use Rattle.fg_playout.specs.Facts.{Holds}
use Rattle.fg_playout.specs.Room.{HasRoom}
use Rattle.fg_runs.specs.Runs.{InRuns}
use Rattle.fg_closure.specs.Holes.{HasMissing, rule_of}
use Rattle.fg_proof.specs.declared.case.Case.{Case}
use Rattle.fg_proof.specs.declared.judging.Answer.{Answer}
use Rattle.fg_proof.specs.declared.judging.Answer.TheVariants.{Yes}
use Rattle.fg_proof.specs.Case.{IsCase}
use Rattle.fg_proof.specs.Judgement.{IsAnswer}

-- A case tells all that a desk had: every position with a kept or a received word is known, and the slots of every live equation
-- are among its lines. It may tell more.
pub record TellsAll (desk : State) (case : Case) : Type 0 where
  pub known_are : (position : ℕ) → IsSome (known desk position) → InRuns case.known position
  pub lines_are : (equation : Equation) → Contains (live_equations desk) equation → Contains case.lines (rule_of equation)

-- Of a case that is judged `Yes`, and tells all that a desk had, no hole is in the desk's closure,
abbrev pub YesIsAProof : Type 0
YesIsAProof =
    (desk : State) (case : Case) → TellsAll desk case → IsAnswer case Yes
    → (position : ℕ) → InRuns case.holes position → ¬ InClosure desk position

-- and so no peeling of the desk gives it a word.
abbrev pub NoPeelingGivesAHole : Type 0
NoPeelingGivesAHole =
    (desk : State) (case : Case) (steps : List Step) → Holds desk → TellsAll desk case → IsAnswer case Yes
    → IsPeeling (known desk) (live_equations desk) steps
    → (position : ℕ) → InRuns case.holes position → ¬ IsSome (end_of (known desk) steps position)

-- The case of a desk tells all that it had.
abbrev pub CasesTellAll : Type 0
CasesTellAll = (port count : ℕ) (desk : State) (case : Case) → IsCase port desk count case → TellsAll desk case

-- The case of a desk is judged `Yes` wherever the window has a missing position.
abbrev pub TrueCasesAreProved : Type 0
TrueCasesAreProved =
    (port count : ℕ) (desk : State) (case : Case) → Holds desk → HasRoom desk → desk.playout.depth ≤ 1000 → count ≤ 100
    → IsCase port desk count case → HasMissing desk count → IsAnswer case Yes

-- A desk has one case.
abbrev pub OneCase : Type 0
OneCase =
    (port count : ℕ) (desk : State) (one other : Case) → IsCase port desk count one → IsCase port desk count other → one ≡ other

-- A case has one answer.
abbrev pub OneAnswer : Type 0
OneAnswer = (case : Case) (one other : Answer) → IsAnswer case one → IsAnswer case other → one ≡ other
