-- Each case is of a gap of a play.
use Rattle.std.proofs.Common.{ℕ, suc, List, [], ◌∷◌, refl, sym, subst, arith}
use Rattle.std.specs.List.{All, Contains}
use Rattle.std.proofs.lemmas.List.Elements.{All-nil, All-cons, All-append, All-head, All-tail, All-weaker}
use Rattle.fg_playout.specs.State.{State}
use Rattle.fg_playout.specs.Play.{IsPlay}
use Rattle.fg_playout.specs.PlayedOn.{PlayOn}
use Rattle.fg_closure.specs.Holes.{HasMissing}
use Rattle.fg_proof.specs.declared.case.Case.{Case}
use Rattle.fg_prove.specs.Laws.{IsOfAGap}
use Rattle.fg_prove.specs.Proved.{IsCaseOf, no_loss, a_loss, AreCases}
use Rattle.fg_prove.proofs.Missing.{missing_if_lost, solution_of}

-- It is a play of its desk.
abbrev IsMade : PlayOn → Type 0
IsMade made = (count : ℕ) × (next : State) × IsPlay count made.desk made.play next

-- Of one of these plays.
abbrev IsOfOne : ℕ → List PlayOn → Case → Type 0
IsOfOne flow mades case = (made : PlayOn) × Contains mades made × IsOfAGap flow made case

of_one : (flow : ℕ) (made : PlayOn) (mades : List PlayOn) (cases : List Case) → IsMade made → IsCaseOf flow made cases → All (IsOfOne flow (made ∷ mades)) cases
of_one flow made mades cases is (no_loss none empty) = subst (λ (cs : List Case). All (IsOfOne flow (made ∷ mades)) cs) (sym empty) (All-nil (IsOfOne flow (made ∷ mades)))
of_one flow made mades cases is (a_loss case loss of one) =
    let gap : IsOfAGap flow made case = record {
      case_is = of;
      missing = subst (λ n. HasMissing made.desk n) (sym is.2.length_is) (missing_if_lost is.0 made.desk is.1 made.play is.2 loss);
      words = is.2.words;
      solution = solution_of made.desk made.play.outcome is.2.words loss.repaired is.2.decides;
    } in
    subst (λ (cs : List Case). All (IsOfOne flow (made ∷ mades)) cs) (sym one)
    (All-cons (IsOfOne flow (made ∷ mades)) case [] (made, (0, omega arith, refl), gap) (All-nil (IsOfOne flow (made ∷ mades))))

pub of_gaps : (flow : ℕ) (mades : List PlayOn) (cases : List Case) → All IsMade mades → AreCases flow mades cases → All (IsOfOne flow mades) cases
of_gaps flow [] cases made are = subst (λ (cs : List Case). All (IsOfOne flow []) cs) (sym are) (All-nil (IsOfOne flow []))
of_gaps flow (made ∷ mades) cases is are =
    subst (λ (cs : List Case). All (IsOfOne flow (made ∷ mades)) cs) (sym are.2)
    (All-append (IsOfOne flow (made ∷ mades)) are.0 are.1
    (of_one flow made mades are.0 (All-head IsMade made mades is) are.3)
    (All-weaker (IsOfOne flow mades) (IsOfOne flow (made ∷ mades)) (λ case one. (one.0, (suc one.1.0, omega (arith, one.1.1), one.1.2), one.2)) are.1
    (of_gaps flow mades are.1 (All-tail IsMade made mades is) are.4)))
