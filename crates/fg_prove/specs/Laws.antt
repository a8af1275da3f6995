-- What shows that the definition of a flow's cases is right.
use Rattle.std.specs.Prelude.{◌≡◌, ◌++◌, ℕ, List, length, Option}
use Rattle.std.specs.List.{All, Contains}
use Rattle.fg_words.specs.declared.Word.{Word}
use Rattle.fg_trace.specs.Trace.{Record}
use Rattle.fg_shape.specs.Playout.{Playout}
use Rattle.fg_playout.specs.PlayedOn.{PlayOn, played_on}
use Rattle.fg_playout.specs.Solution.{IsSolution}
use Rattle.fg_closure.specs.Holes.{HasMissing}
use Rattle.fg_proof.specs.Case.{IsCase}
use Rattle.fg_proof.specs.declared.case.Case.{Case}
use Rattle.fg_prove.specs.Proved.{AreCases, AreProved}

-- Plays on their desks have one list of cases,
abbrev pub OneListOfCases : Type 0
OneListOfCases = (port : ℕ) (mades : List PlayOn) (one other : List Case) → AreCases port mades one → AreCases port mades other → one ≡ other

-- and so have the records of a trace, for each flow.
abbrev pub OneProof : Type 0
OneProof =
    (playout : Playout) (records : List Record) (flow : ℕ) (one other : List Case)
    → AreProved playout records flow one → AreProved playout records flow other → one ≡ other

-- The cases of plays are those of the first ones, and then those of the others.
abbrev pub CasesJoin : Type 0
CasesJoin =
    (port : ℕ) (one other : List PlayOn) (cases cases' : List Case) → AreCases port one cases → AreCases port other cases'
    → AreCases port (one ++ other) (cases ++ cases')

abbrev pub CasesSplit : Type 0
CasesSplit =
    (port : ℕ) (one other : List PlayOn) (cases : List Case) → AreCases port (one ++ other) cases
    → (first : List Case) × (rest : List Case) × (cases ≡ first ++ rest) × AreCases port one first × AreCases port other rest

-- The case is of a gap of this play: of its desk, which has a solution, and of its window, of which a position doesn't follow.
pub record IsOfAGap (flow : ℕ) (made : PlayOn) (case : Case) : Type 0 where
  pub case_is : IsCase flow made.desk (length made.play.shown) case
  pub missing : HasMissing made.desk (length made.play.shown)
  pub words : ℕ → Option Word
  pub solution : IsSolution made.desk words

-- Each case that records give a flow is of a gap of a play of its run.
abbrev pub CasesAreOfGaps : Type 0
CasesAreOfGaps =
    (playout : Playout) (records : List Record) (flow : ℕ) (cases : List Case) (proved : AreProved playout records flow cases)
    → All (λ case. (made : PlayOn) × Contains (played_on playout proved.arrivals proved.plays proved.replies proved.run) made
    × IsOfAGap flow made case) cases
