-- The live equations after one more is admitted.
use Rattle.std.proofs.Common.{◌≡◌, ◌≢◌, ℕ, Some, sym, subst, ◌∙◌, ⊎_elim}
use Rattle.std.proofs.lemmas.Bool.{cases_eq}
use Rattle.std.proofs.lemmas.Option.{same_Some}
use Rattle.std.specs.FinMap.{get}
use Rattle.fg_peel.specs.Equation.{Equation}
use Rattle.fg_peel.proofs.Maps.{inserted, beside_inserted}
use Rattle.fg_playout.specs.State.{State, Live}
use Rattle.fg_playout.specs.Admission.{HaveSameSlots, HasTwin, with_equation}

abbrev pub added : ℕ → Equation → Live
added place equation = record { place = place; equation = equation }

module _ (old : State) (place : ℕ) (equation : Equation) where
  pub at_added : (s : ℕ) → s ≡ old.admitted → get (with_equation old place equation).equations s ≡ Some (added place equation)
  at_added s here = inserted old.equations old.admitted (added place equation) s here

  pub is_added :
      (s : ℕ) (l : Live) → s ≡ old.admitted → get (with_equation old place equation).equations s ≡ Some l → added place equation ≡ l
  is_added s l here is = same_Some (added place equation) l (sym (at_added s here) ∙ is)

  pub beside_added : (s : ℕ) → s ≢ old.admitted → get (with_equation old place equation).equations s ≡ get old.equations s
  beside_added s beside = beside_inserted old.equations old.admitted (added place equation) s beside

  -- What stands there now is the new equation, or stood there before.
  pub added_or_old :
      (P : Live → Type 0) (s : ℕ) (l : Live) → get (with_equation old place equation).equations s ≡ Some l
      → (s ≡ old.admitted → P (added place equation)) → (get old.equations s ≡ Some l → P l) → P l
  added_or_old P s l is new before = ⊎_elim
      (λ here. subst P (is_added s l here is) (new here))
      (λ beside. before (sym (beside_added s beside) ∙ is))
      (cases_eq s old.admitted)

  -- What holds of any two of different serial numbers holds after it, if it holds of the new one and each other.
  pub apart_with_added :
      (R : Live → Live → Type 0)
      → ((s : ℕ) (l : Live) → get old.equations s ≡ Some l → R l (added place equation))
      → ((s : ℕ) (l : Live) → get old.equations s ≡ Some l → R (added place equation) l)
      → ((s t : ℕ) (one other : Live) → get old.equations s ≡ Some one → get old.equations t ≡ Some other → s ≢ t → R one other)
      → (s t : ℕ) (one other : Live) → get (with_equation old place equation).equations s ≡ Some one
      → get (with_equation old place equation).equations t ≡ Some other → s ≢ t → R one other
  apart_with_added R last first both s t one other is is' differ = ⊎_elim
      (λ here. ⊎_elim
      (λ here'. absurd (differ (here ∙ sym here')))
      (λ beside'. subst (λ (v : Live). R v other) (is_added s one here is) (first t other (sym (beside_added t beside') ∙ is')))
      (cases_eq t old.admitted))
      (λ beside. ⊎_elim
      (λ here'. subst (λ (v : Live). R one v) (is_added t other here' is') (last s one (sym (beside_added s beside) ∙ is)))
      (λ beside'. both s t one other (sym (beside_added s beside) ∙ is) (sym (beside_added t beside') ∙ is') differ)
      (cases_eq t old.admitted))
      (cases_eq s old.admitted)

pub flip_slots : (one other : Equation) → HaveSameSlots one other → HaveSameSlots other one
flip_slots one other same = record { base_is = sym same.base_is; offset_is = sym same.offset_is; count_is = sym same.count_is }

-- Without a twin, no live equation has the same slots.
pub no_twin_apart :
    (old : State) (equation : Equation) → ¬ HasTwin old equation (λ _. Unit {0})
    → (s : ℕ) (l : Live) → get old.equations s ≡ Some l → ¬ HaveSameSlots l.equation equation
no_twin_apart old equation no_twin s l is same = no_twin (s, l, is, same, tt)
