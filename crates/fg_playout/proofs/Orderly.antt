-- The facts of a desk that closure, solutions and replies rest on.
use Rattle.std.proofs.Common.{◌≡◌, ◌≢◌, ◌<◌, ◌≤◌, ℕ, Option, Some, IsSome, sym, subst, ◌∙◌, ⊎_elim, lt-ltb, le-ltb, ltb}
use Rattle.std.proofs.lemmas.Bool.{cases_lt, cond-true, cond-false}
use Rattle.std.specs.List.{Contains}
use Rattle.std.specs.FinMap.{get}
use Rattle.fg_words.specs.declared.Word.{Word}
use Rattle.fg_words.specs.Word.{IsMedia}
use Rattle.fg_shape.specs.Playout.{Playout}
use Rattle.fg_peel.specs.Equation.{Equation, slots, AreAdmissible}
use Rattle.fg_peel.proofs.Maps.{nothing_in_empty}
use Rattle.fg_playout.specs.State.{State, Live, known, live_equations, opening}
use Rattle.fg_playout.specs.Admission.{HaveSameSlots}
use Rattle.fg_playout.specs.Facts.{Holds}
use Rattle.fg_playout.proofs.Equations.{serial_of}

pub record IsOrderly (desk : State) : Type 0 where
  pub kept : (position : ℕ) (word : Word) → get desk.kept position ≡ Some word → IsMedia word
  pub media : (position : ℕ) (word : Word) → get desk.media position ≡ Some word → IsMedia word
  pub some_offset : (serial : ℕ) (live : Live) → get desk.equations serial ≡ Some live → 1 ≤ live.equation.offset
  pub based :
      (serial : ℕ) (live : Live) → get desk.equations serial ≡ Some live
      → (slot : ℕ) → Contains (slots live.equation) slot → slot < desk.mark → IsSome (get desk.kept slot)
  pub apart :
      (serial serial' : ℕ) (one other : Live) → get desk.equations serial ≡ Some one
      → get desk.equations serial' ≡ Some other → serial ≢ serial' → ¬ HaveSameSlots one.equation other.equation

pub orderly_opening : (playout : Playout) → IsOrderly (opening playout)
orderly_opening playout = record {
  kept = λ p w is. absurd (nothing_in_empty p w is);
  media = λ p w is. absurd (nothing_in_empty p w is);
  some_offset = λ s l is. absurd (nothing_in_empty s l is);
  based = λ s l is. absurd (nothing_in_empty s l is);
  apart = λ s t one other is. absurd (nothing_in_empty s one is);
}

pub orderly_from_holds : (desk : State) → Holds desk → IsOrderly desk
orderly_from_holds desk holds = record {
  kept = λ p w is. (holds.kept p w is).media;
  media = λ p w is. (holds.media p w is).media;
  some_offset = λ s l is. (holds.live s l is).shape.some_offset;
  based = λ s l is. (holds.live s l is).based;
  apart = λ s t one other is is' differ. (holds.apart s t one other is is' differ).slots;
}

pub known_below : (desk : State) (position : ℕ) → position < desk.mark → known desk position ≡ get desk.kept position
known_below desk position below =
    cond-true (ltb position desk.mark) (get desk.kept position) (get desk.media position) (lt-ltb position desk.mark below)

pub known_ahead : (desk : State) (position : ℕ) → desk.mark ≤ position → known desk position ≡ get desk.media position
known_ahead desk position ahead =
    cond-false (ltb position desk.mark) (get desk.kept position) (get desk.media position) (le-ltb position desk.mark ahead)

module _ (desk : State) (orderly : IsOrderly desk) where
  pub known_media : (position : ℕ) (word : Word) → known desk position ≡ Some word → IsMedia word
  known_media position word is = ⊎_elim
      (λ below. orderly.kept position word (sym (known_below desk position below) ∙ is))
      (λ ahead. orderly.media position word (sym (known_ahead desk position ahead) ∙ is))
      (cases_lt position desk.mark)

  -- The words at an equation's slots before the mark are known.
  pub known_base :
      (equation : Equation) → Contains (live_equations desk) equation
      → (slot : ℕ) → Contains (slots equation) slot → slot < desk.mark → IsSome (known desk slot)
  known_base equation listed slot at below =
      let r = serial_of desk equation listed in
      let there : Contains (slots r.1.equation) slot = subst (λ (e : Equation). Contains (slots e) slot) (sym r.3) at in
      subst (λ (o : Option Word). IsSome o) (sym (known_below desk slot below)) (orderly.based r.0 r.1 r.2 slot there below)

  pub admissible : AreAdmissible (known desk) (live_equations desk)
  admissible = record {
    known_media = known_media;
    some_offset = λ equation listed.
        (let r = serial_of desk equation listed in subst (λ (e : Equation). 1 ≤ e.offset) r.3 (orderly.some_offset r.0 r.1 r.2));
  }
