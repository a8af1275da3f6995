-- Where a case is judged `Yes`, no hole follows.
use Rattle.std.proofs.Common.{◌≡◌, ℕ, Some}
use Rattle.std.proofs.lemmas.Option.{slice_get-get_or}
use Rattle.std.specs.List.{slice_get}
use Rattle.fg_peel.specs.Laws.{PeelingsStayInClosure}
use Rattle.fg_playout.specs.State.{State, known, live_equations}
use Rattle.fg_playout.specs.Solution.{InClosure, given, derived}
use Rattle.fg_playout.specs.Laws.{ClosureIsPeelings}
use Rattle.fg_runs.specs.Runs.{InRuns}
use Rattle.fg_closure.specs.Holes.{rule_of}
use Rattle.fg_proof.specs.declared.case.Case.{Case}
use Rattle.fg_proof.specs.declared.judging.Answer.TheVariants.{Yes}
use Rattle.fg_proof.specs.Judgement.{IsAnswer}
use Rattle.fg_proof.specs.Laws.{TellsAll, YesIsAProof, NoPeelingGivesAHole}
use Rattle.fg_proof.proofs.JudgingHoles.{alone_at}

-- By induction over the closure: a known position is no hole, and an equation whose other slots are no holes would have one hole alone.
no_hole : (desk : State) (case : Case) → TellsAll desk case → IsAnswer case Yes → (position : ℕ) → InClosure desk position → ¬ InRuns case.holes position
no_hole desk case tells answer position (given some) hole = answer.1 position (tells.known_are position some, hole)
no_hole desk case tells answer position (derived equation listed slot ahead others) hole =
    let at = tells.lines_are equation listed in
    let is : slice_get case.lines at.0 ≡ Some (rule_of equation) = rw (slice_get-get_or case.lines at.0 (rule_of equation) at.1) (cc at.2) in
    answer.2 at.0 ((alone_at case at.0 (rule_of equation) is).1 (record {
      slot = position;
      of_rule = slot;
      hole = hole;
      others = λ other inside differs. no_hole desk case tells answer other (others other inside differs);
    }))

pub yes_is_a_proof : YesIsAProof
yes_is_a_proof desk case tells answer position hole follows = no_hole desk case tells answer position follows hole

pub no_peeling : ClosureIsPeelings → PeelingsStayInClosure → NoPeelingGivesAHole
no_peeling same within desk case steps holds tells answer peeling position hole some =
    no_hole desk case tells answer position ((same desk holds position).1 (within (known desk) (live_equations desk) steps peeling position some)) hole
