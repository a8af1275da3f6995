-- What is known of a desk, and where its solved words stand.
use Rattle.std.proofs.Common.{◌≡◌, ◌+◌, ◌<◌, ◌≤◌, ◌==◌, ℕ, List, [], ◌∷◌, Option, Some, None, IsSome, refl, sym, ap, ◌∙◌, ⊎_elim, arith, ne_eqb}
use Rattle.std.proofs.lemmas.Bool.{cases_lt, cond-false}
use Rattle.std.proofs.lemmas.List.Elements.{recursion_from_All}
use Rattle.std.specs.List.{Contains, AllByRecursion}
use Rattle.std.specs.FinMap.{get}
use Rattle.fg_words.specs.declared.Word.{Word}
use Rattle.fg_shape.specs.Playout.{Playout}
use Rattle.fg_peel.specs.Equation.{Equation, slots, IsSettled}
use Rattle.fg_peel.specs.Peeling.{Step, after_step, given_word, end_of}
use Rattle.fg_peel.proofs.Sums.{sum_at-agree}
use Rattle.fg_peel.proofs.Options.{value_of, has_value, none_has_no_value, or_first, or_second, or_none, same_functions}
use Rattle.fg_peel.proofs.Maps.{in_empty}
use Rattle.fg_playout.specs.State.{State, Live, known}
use Rattle.fg_playout.specs.Admission.{kept_count}
use Rattle.fg_playout.specs.Facts.{Holds}
use Rattle.fg_playout.specs.Laws.{StepsAreAhead}
use Rattle.fg_desk.specs.Contents.{Contents, AreSolved, known_in, opened}
use Rattle.fg_playout.proofs.Orderly.{known_below}

-- The words that need no equation come before those solved.
module _ (desk : Contents) (position : ℕ) where
  pub known_first : (word : Word) → known desk.state position ≡ Some word → known_in desk position ≡ Some word
  known_first word is = or_first (known desk.state position) (get desk.solved position) word is

  pub solved_second : known desk.state position ≡ None → known_in desk position ≡ get desk.solved position
  solved_second none = or_second (known desk.state position) (get desk.solved position) none

  pub known_alone : get desk.solved position ≡ None → known_in desk position ≡ known desk.state position
  known_alone none = or_none (known desk.state position) (get desk.solved position) none

-- A desk on which nothing is solved.
pub nothing_solved : (desk : Contents) → ((q : ℕ) → get desk.solved q ≡ None) → AreSolved desk
nothing_solved desk none = record {
  peeled = ([], tt, same_functions (known_in desk) (known desk.state) (λ q. known_alone desk q (none q)));
  beside = λ q some. absurd (none_has_no_value (get desk.solved q) (none q) some);
}

pub opened_is_solved : (playout : Playout) → AreSolved (opened playout)
opened_is_solved playout = nothing_solved (opened playout) (λ q. in_empty q)

-- A peeling leaves what lies before all its steps.
pub end_before :
    (mark : ℕ) (before : ℕ → Option Word) (steps : List Step) → AllByRecursion (λ step. mark ≤ step.position) steps
    → (q : ℕ) → q < mark → end_of before steps q ≡ before q
end_before mark before [] ahead q below = refl
end_before mark before (step ∷ steps) ahead q below =
    let first = ahead.0 in
    end_before mark (after_step before step) steps ahead.1 q below
    ∙ cond-false (q == step.position) (Some (given_word before step)) (before q)
    (ne_eqb q step.position (λ same. omega (arith, same, first, below)))

module _ (steps_are_ahead : StepsAreAhead) (desk : Contents) (holds : Holds desk.state) (solved : AreSolved desk) where
  -- Below the mark all that is known is kept.
  pub kept_below : (q : ℕ) → q < desk.state.mark → known_in desk q ≡ get desk.state.kept q
  kept_below q below =
      ap (λ (f : ℕ → Option Word). f q) solved.peeled.2
      ∙ end_before desk.state.mark (known desk.state) solved.peeled.0
      (recursion_from_All (λ (step : Step). desk.state.mark ≤ step.position) solved.peeled.0
      (steps_are_ahead desk.state solved.peeled.0 holds solved.peeled.1)) q below
      ∙ known_below desk.state q below

  -- So all that is solved lies at the mark or past it.
  pub solved_ahead : (q : ℕ) → IsSome (get desk.solved q) → desk.state.mark ≤ q
  solved_ahead q some = ⊎_elim
      (λ below.
      let none = solved.beside q some in
      let kept : known_in desk q ≡ known desk.state q = kept_below q below ∙ sym (known_below desk.state q below) in
      absurd (none_has_no_value (get desk.solved q) (sym (solved_second desk q none) ∙ kept ∙ none) some))
      (λ ahead. ahead)
      (cases_lt q desk.state.mark)

-- Each slot of a live equation is no more than 100 positions before the mark.
pub slot_is_kept :
    (desk : State) → Holds desk → (serial : ℕ) (live : Live) → get desk.equations serial ≡ Some live
    → (slot : ℕ) → Contains (slots live.equation) slot → desk.mark ≤ slot + kept_count
slot_is_kept desk holds serial live is slot c = ⊎_elim
    (λ below.
    let word = value_of (get desk.kept slot) ((holds.live serial live is).based slot c below) in
    (holds.kept slot word.0 word.1).near)
    (λ ahead. omega (arith, ahead))
    (cases_lt slot desk.mark)

-- An equation that was settled is so in words that keep those at its slots.
pub stays_settled :
    (one other : ℕ → Option Word) (equation : Equation)
    → ((q : ℕ) (word : Word) → Contains (slots equation) q → one q ≡ Some word → other q ≡ Some word)
    → IsSettled one equation → IsSettled other equation
stays_settled one other equation keeps settled = (
  λ q c. (let v = value_of (one q) (settled.0 q c) in has_value (other q) v.0 (keeps q v.0 c v.1)),
  settled.1 ∙ sum_at-agree one other (slots equation)
      (λ q c. (let v = value_of (one q) (settled.0 q c) in v.1 ∙ sym (keeps q v.0 c v.1))),
)
