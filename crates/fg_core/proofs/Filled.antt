-- A desk with one more solved word.
use Rattle.std.proofs.Common.{◌≡◌, ◌≢◌, ◌==◌, ◌++◌, ℕ, [], ◌∷◌, Option, Some, None, IsSome, refl, sym, ap, subst, ◌∙◌, ⊎_elim, eq-eqb, ne_eqb}
use Rattle.std.proofs.lemmas.Bool.{cases_eq, cond-true, cond-false}
use Rattle.std.proofs.lemmas.Option.{none-some}
use Rattle.std.specs.Option.{option_or}
use Rattle.std.specs.FinMap.{get, insert}
use Rattle.fg_words.specs.declared.Word.{Word}
use Rattle.fg_peel.specs.Equation.{Equation, slots, Keeps, IsSettled}
use Rattle.fg_peel.specs.Peeling.{Step, CanFollow, after_step, end_of, given_word}
use Rattle.fg_peel.specs.Laws.{PeelingsAppend}
use Rattle.fg_peel.proofs.Options.{value_of, has_value}
use Rattle.fg_peel.proofs.Maps.{beside_inserted, inserted}
use Rattle.fg_peel.proofs.Sums.{sum_at-agree}
use Rattle.fg_playout.specs.State.{known, live_equations}
use Rattle.fg_desk.specs.Contents.{Contents, AreSolved, CanFill, known_in, filled}

-- Where neither of two options has a value, none of them has.
neither : (o p : Option Word) → option_or o p ≡ None → (o ≡ None) × (p ≡ None)
neither None p none = (refl, none)
neither (Some w) p none = absurd (none-some w (sym none))

-- What is settled stays so when more words are known.
pub stays_settled :
    (one other : ℕ → Option Word) → Keeps one other → (equation : Equation) → IsSettled one equation
    → IsSettled other equation
stays_settled one other keeps equation settled = (
  λ q c. (let v = value_of (one q) (settled.0 q c) in has_value (other q) v.0 (keeps q v.0 v.1)),
  settled.1 ∙ sum_at-agree one other (slots equation)
      (λ q c. let v = value_of (one q) (settled.0 q c) in v.1 ∙ sym (keeps q v.0 v.1)),
)

module _ (desk : Contents) (slot : ℕ) (word : Word) where
  -- It is known from then on.
  pub filled_is_known : known_in desk slot ≡ None → known_in (filled desk slot word) slot ≡ Some word
  filled_is_known unknown =
      ap (λ (o : Option Word). option_or o (get (insert desk.solved slot word) slot))
      (neither (known desk.state slot) (get desk.solved slot) unknown).0
      ∙ inserted desk.solved slot word slot refl

  -- Nothing else changes.
  pub beside_filled : (q : ℕ) → q ≢ slot → known_in (filled desk slot word) q ≡ known_in desk q
  beside_filled q other = ap (option_or (known desk.state q)) (beside_inserted desk.solved slot word q other)

  pub filled_keeps : known_in desk slot ≡ None → Keeps (known_in desk) (known_in (filled desk slot word))
  filled_keeps unknown q w is = ⊎_elim
      (λ same. absurd (none-some w (sym unknown ∙ ap (known_in desk) (sym same) ∙ is)))
      (λ other. beside_filled q other ∙ is)
      (cases_eq q slot)

  module _ (equation : Equation) (can : CanFill desk equation slot word) where
    -- The step of a peeling that gives it.
    pub step : Step
    step = record { equation = equation; position = slot }

    -- The words known are those after the step.
    filled_by_step : (q : ℕ) → known_in (filled desk slot word) q ≡ after_step (known_in desk) step q
    unfolding step
    filled_by_step q = ⊎_elim
        (λ same.
        ap (known_in (filled desk slot word)) same ∙ filled_is_known can.missing.1
        ∙ ap (λ (w : Word). Some w) can.word_is
        ∙ sym (cond-true (q == slot) (Some (given_word (known_in desk) step)) (known_in desk q) (eq-eqb q slot same)))
        (λ other.
        beside_filled q other
        ∙ sym (cond-false (q == slot) (Some (given_word (known_in desk) step)) (known_in desk q) (ne_eqb q slot other)))
        (cases_eq q slot)

    -- It can be made.
    step_follows : CanFollow (known_in desk) (live_equations desk.state) step
    unfolding step
    step_follows = record {
      listed = can.live;
      slot = can.missing.0;
      unknown = can.missing.1;
      others_known = can.missing.2;
    }

    -- What is solved is still a peeling, one step longer.
    pub stays_solved : PeelingsAppend → AreSolved desk → AreSolved (filled desk slot word)
    stays_solved appends solved =
        let steps = solved.peeled.0 in
        let words = solved.peeled.2 in
        let follows : CanFollow (end_of (known desk.state) steps) (live_equations desk.state) step =
        subst (λ (w : ℕ → Option Word). CanFollow w (live_equations desk.state) step) words step_follows in
        let joined = appends (known desk.state) (live_equations desk.state) steps (step ∷ []) solved.peeled.1 (follows, tt) in
        record {
          peeled = (
            steps ++ step ∷ [],
            joined.0,
            (λ i q. filled_by_step q i) ∙ ap (λ (w : ℕ → Option Word). after_step w step) words ∙ sym joined.1,
          );
          beside = λ q some. ⊎_elim
              (λ same. ap (known desk.state) same ∙ (neither (known desk.state slot) (get desk.solved slot) can.missing.1).0)
              (λ other. solved.beside q (subst (λ (o : Option Word). IsSome o) (beside_inserted desk.solved slot word q other) some))
              (cases_eq q slot);
        }
