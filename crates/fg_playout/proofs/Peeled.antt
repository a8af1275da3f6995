-- Closure and solutions of a desk are those of peeling.
use Rattle.std.proofs.Common.{◌==◌, None, ap, ne_eqb, ◌≡◌, ◌≤◌, List, [], ◌∷◌, Some, sym, ◌∙◌, ℕ, Option, ⊎_elim}
use Rattle.std.proofs.lemmas.Bool.{cases_lt, cond-false}
use Rattle.std.proofs.lemmas.List.Elements.{All-from_recursion}
use Rattle.std.proofs.lemmas.Option.{none-some}
use Rattle.std.specs.List.{AllByRecursion}
use Rattle.fg_words.specs.declared.Word.{Word}
use Rattle.fg_peel.specs.Closure.{InClosure as Follows, given as follows_given, derived as follows_derived}
use Rattle.fg_peel.specs.Equation.{Keeps}
use Rattle.fg_peel.specs.Peeling.{Step, IsPeeling, after_step, given_word}
use Rattle.fg_peel.specs.Laws.{Uniqueness}
use Rattle.fg_peel.specs.Solution.{IsSolution as Solves}
use Rattle.fg_peel.proofs.Options.{value_of}
use Rattle.fg_playout.specs.State.{State, known, live_equations}
use Rattle.fg_playout.specs.Solution.{InClosure, IsSolution, given, derived}
use Rattle.fg_playout.specs.Laws.{ClosureIsPeelings, SolutionsArePeelings, StepsAreAhead, OneSolution}
use Rattle.fg_playout.proofs.Orderly.{IsOrderly, orderly_from_holds, known_base, admissible}

pub closure_to_peel : (desk : State) (position : ℕ) → InClosure desk position → Follows (known desk) (live_equations desk) position
closure_to_peel desk position (given h) = follows_given h
closure_to_peel desk position (derived equation listed slot ahead others) =
    follows_derived equation listed slot (λ q c n. closure_to_peel desk q (others q c n))

module _ (desk : State) (orderly : IsOrderly desk) where
  pub closure_from_peel : (position : ℕ) → Follows (known desk) (live_equations desk) position → InClosure desk position
  closure_from_peel position (follows_given h) = given h
  closure_from_peel position (follows_derived equation listed slot others) = ⊎_elim
      (λ below. given (known_base desk orderly equation listed position slot below))
      (λ ahead. derived equation listed slot ahead (λ q c n. closure_from_peel q (others q c n)))
      (cases_lt position desk.mark)

  pub solution_to_peel : (words : ℕ → Option Word) → IsSolution desk words → Solves (known desk) (live_equations desk) words
  solution_to_peel words solution = record {
    domain = λ p. (λ h. closure_to_peel desk p ((solution.domain p).0 h), λ h. (solution.domain p).1 (closure_from_peel p h));
    keeps = solution.agrees;
    media = solution.media;
    sums = λ equation listed inside. solution.sums equation listed (λ p c. closure_from_peel p (inside p c));
  }

  pub solution_from_peel : (words : ℕ → Option Word) → Solves (known desk) (live_equations desk) words → IsSolution desk words
  solution_from_peel words solves = record {
    domain = λ p. (λ h. closure_from_peel p ((solves.domain p).0 h), λ h. (solves.domain p).1 (closure_to_peel desk p h));
    agrees = solves.keeps;
    media = solves.media;
    sums = λ equation listed inside. solves.sums equation listed (λ p c. closure_to_peel desk p (inside p c));
  }

pub closure_is_peelings : ClosureIsPeelings
closure_is_peelings desk holds position =
    (closure_to_peel desk position, closure_from_peel desk (orderly_from_holds desk holds) position)

pub solutions_are_peelings : SolutionsArePeelings
solutions_are_peelings desk holds words =
    (solution_to_peel desk (orderly_from_holds desk holds) words, solution_from_peel desk (orderly_from_holds desk holds) words)

-- A step keeps the known words.
pub after_step_keeps : (known : ℕ → Option Word) (step : Step) → known step.position ≡ None → Keeps known (after_step known step)
after_step_keeps known step unknown q w is =
    cond-false (q == step.position) (Some (given_word known step)) (known q)
    (ne_eqb q step.position (λ same. none-some w (sym (ap known same ∙ unknown) ∙ is)))
    ∙ is

-- A peeling's steps are ahead of the mark, since what is before it and in an equation is known.
steps_ahead :
    (desk : State) → IsOrderly desk → (now : ℕ → Option Word)
    → Keeps (known desk) now
    → (steps : List Step) → IsPeeling now (live_equations desk) steps → AllByRecursion (λ step. desk.mark ≤ step.position) steps
steps_ahead desk orderly now keeps [] peeling = tt
steps_ahead desk orderly now keeps (step ∷ steps) peeling = (
  ⊎_elim
      (λ below.
      let some = known_base desk orderly step.equation peeling.0.listed step.position peeling.0.slot below in
      let v = value_of (known desk step.position) some in
      absurd (none-some v.0 (sym peeling.0.unknown ∙ keeps step.position v.0 v.1)))
      (λ ahead. ahead)
      (cases_lt step.position desk.mark),
  steps_ahead desk orderly (after_step now step) (λ q w is. after_step_keeps now step peeling.0.unknown q w (keeps q w is)) steps peeling.1,
)

pub steps_are_ahead : StepsAreAhead
steps_are_ahead desk steps holds peeling = All-from_recursion (λ step. desk.mark ≤ step.position) steps
    (steps_ahead desk (orderly_from_holds desk holds) (known desk) (λ q w is. is) steps peeling)

pub one_solution : Uniqueness → OneSolution
one_solution unique desk holds one other a b =
    let orderly = orderly_from_holds desk holds in
    unique (known desk) (live_equations desk) (admissible desk orderly) one other
    (solution_to_peel desk orderly one a) (solution_to_peel desk orderly other b)
