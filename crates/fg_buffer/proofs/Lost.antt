-- What a search for a lost slot tells, where none of the slots may be lost.
use Rattle.std.proofs.Common.{◌≡◌, ◌⊎◌, ◌<◌, ℕ, Bool, true, false, not, Option, Some, None, IsSome, is_some, inl, inr, refl, sym, ap, ◌∙◌, ⊎_elim}
use Rattle.std.specs.Prelude.{IfSome, IfNone}
use Rattle.std.proofs.lemmas.Bool.{false≢true}
use Rattle.std.specs.List.{Contains}
use Rattle.std.specs.FinMap.{get}
use Rattle.fg_shape.specs.Shape.{slots_of}
use Rattle.fg_peel.proofs.Options.{none_has_no_value}
use Rattle.fg_peel.specs.Words.{Words}
use Rattle.fg_buffer.specs.LiveEquations.{IsLost}

pub found_or_not :
    (r : Option ℕ) (P : Type 0) (Q : ℕ → Type 0) → IfSome r Q → IfNone r P
    → ((x : ℕ) × Q x × (is_some r ≡ true)) ⊎ (P × (is_some r ≡ false))
found_or_not None P Q some none = inr (none, refl)
found_or_not (Some x) P Q some none = inl (x, some, refl)

not_of : (a b : Bool) → b ≡ not a → a ≡ not b
not_of true b e = sym (ap not e)
not_of false b e = sym (ap not e)

abbrev pub AllBased : ℕ → Words → ℕ → ℕ → ℕ → Type 0
AllBased mark kept base offset count =
    (slot : ℕ) → Contains (slots_of base offset count) slot → slot < mark → IsSome (get kept slot)

module _ (r : Option ℕ) (mark : ℕ) (kept : Words) (base offset count : ℕ)
    (some : IfSome r (IsLost mark kept base offset count)) (none : IfNone r (AllBased mark kept base offset count)) where
  pub none_lost : (answer : Bool) → is_some r ≡ not answer → answer ≡ true → AllBased mark kept base offset count
  none_lost answer is none_is = ⊎_elim
      (λ lost. absurd (false≢true (sym (not_of answer (is_some r) is ∙ ap not lost.2) ∙ none_is)))
      (λ based. based.0)
      (found_or_not r (AllBased mark kept base offset count) (IsLost mark kept base offset count) some none)

  pub based_none : (answer : Bool) → is_some r ≡ not answer → AllBased mark kept base offset count → answer ≡ true
  based_none answer is all = ⊎_elim
      (λ lost.
      absurd (none_has_no_value (get kept lost.0) lost.1.lost (all lost.0 lost.1.listed lost.1.played)))
      (λ based. not_of answer (is_some r) is ∙ ap not based.1)
      (found_or_not r (AllBased mark kept base offset count) (IsLost mark kept base offset count) some none)
