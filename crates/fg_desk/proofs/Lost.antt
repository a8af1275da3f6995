-- What a search for a lost slot tells.
use Rattle.std.proofs.Common.{◌≡◌, ◌⊎◌, ◌<◌, ℕ, Bool, true, false, Option, Some, None, IsSome, is_some, inl, inr, refl, sym, ◌∙◌, ⊎_elim}
use Rattle.std.specs.Prelude.{IfSome, IfNone}
use Rattle.std.proofs.lemmas.Bool.{false≢true}
use Rattle.std.specs.List.{Contains}
use Rattle.std.specs.FinMap.{get}
use Rattle.fg_shape.specs.Shape.{slots_of}
use Rattle.fg_peel.proofs.Options.{none_has_no_value}
use Rattle.fg_peel.specs.Words.{Words}
use Rattle.fg_buffer.specs.LiveEquations.{IsLost}

pub found_or_not :
    (r : Option ℕ) (P : Type 0) (Q : ℕ → Type 0) → IfSome r Q → IfNone r P
    → ((x : ℕ) × Q x × (is_some r ≡ true)) ⊎ (P × (is_some r ≡ false))
found_or_not None P Q some none = inr (none, refl)
found_or_not (Some x) P Q some none = inl (x, some, refl)

abbrev pub AllBased : ℕ → Words → ℕ → ℕ → ℕ → Type 0
AllBased mark kept base offset count =
    (slot : ℕ) → Contains (slots_of base offset count) slot → slot < mark → IsSome (get kept slot)

module _ (r : Option ℕ) (mark : ℕ) (kept : Words) (base offset count : ℕ)
    (some : IfSome r (IsLost mark kept base offset count)) (none : IfNone r (AllBased mark kept base offset count)) where
  pub is_lost :
      (answer : Bool) → answer ≡ is_some r
      → (answer ≡ true → (slot : ℕ) × Contains (slots_of base offset count) slot × (slot < mark) × (get kept slot ≡ None))
      × (((slot : ℕ) × Contains (slots_of base offset count) slot × (slot < mark) × (get kept slot ≡ None)) → answer ≡ true)
  is_lost answer is = ⊎_elim
      (λ lost. (λ _. (lost.0, lost.1.listed, lost.1.played, lost.1.lost), λ _. is ∙ lost.2))
      (λ based. (
        λ found. absurd (false≢true (sym (is ∙ based.1) ∙ found)),
        λ lost. absurd (none_has_no_value (get kept lost.0) lost.3 (based.0 lost.0 lost.1 lost.2)),
      ))
      (found_or_not r (AllBased mark kept base offset count) (IsLost mark kept base offset count) some none)
