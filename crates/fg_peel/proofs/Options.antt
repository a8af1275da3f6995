-- Options: whether they have a value, and which.
use Rattle.std.proofs.Common.{◌≡◌, ◌⊎◌, ℕ, Bool, true, false, cond, Option, Some, None, IsSome, IsSomeAnd, is_some, Bor, inl, inr, refl, sym, ap, subst, ◌∙◌}
use Rattle.std.proofs.lemmas.Option.{none-some}
use Rattle.std.specs.Option.{option_or, option_copied}

module _ {X : Type 0} where
  pub none_or_some : (o : Option X) → (o ≡ None) ⊎ ((x : X) × (o ≡ Some x))
  none_or_some None = inl refl
  none_or_some (Some x) = inr (x, refl)

  pub value_of : (o : Option X) → IsSome o → (x : X) × (o ≡ Some x)
  value_of None h = absurd (cc)
  value_of (Some x) h = (x, refl)

  pub has_value : (o : Option X) (x : X) → o ≡ Some x → IsSome o
  has_value o x is = ap is_some is

  pub none_has_no_value : (o : Option X) → o ≡ None → IsSome o → ⊥
  none_has_no_value o none some = let v = value_of o some in none-some v.0 (sym none ∙ v.1)

  pub some_and : (o : Option X) (P : X → Type 0) → IsSomeAnd o P → (x : X) × (o ≡ Some x) × P x
  some_and None P h = absurd h
  some_and (Some x) P h = (x, refl, h)

  pub some_and_from : (o : Option X) (P : X → Type 0) (x : X) → o ≡ Some x → P x → IsSomeAnd o P
  some_and_from o P x is p = subst (λ (t : Option X). IsSomeAnd t P) (sym is) p

  -- Options with the same values are the same.
  pub same_options :
      (o p : Option X) → ((x : X) → o ≡ Some x → p ≡ Some x) → ((x : X) → p ≡ Some x → o ≡ Some x) → o ≡ p
  same_options None None f g = refl
  same_options None (Some x) f g = g x refl
  same_options (Some x) p f g = sym (f x refl)

  -- A choice between an option and none.
  pub chosen : (b : Bool) (o : Option X) (x : X) → cond b o None ≡ Some x → (b ≡ true) × (o ≡ Some x)
  chosen true o x is = (refl, is)
  chosen false o x is = absurd (none-some x is)

  pub passed_over : (b : Bool) (o : Option X) (x : X) → cond b None o ≡ Some x → (b ≡ false) × (o ≡ Some x)
  passed_over true o x is = absurd (none-some x is)
  passed_over false o x is = (refl, is)

  -- The first of two options that has a value.
  pub or_first : (o p : Option X) (x : X) → o ≡ Some x → option_or o p ≡ Some x
  or_first o p x is = ap (λ (t : Option X). option_or t p) is

  pub or_second : (o p : Option X) → o ≡ None → option_or o p ≡ p
  or_second o p is = ap (λ (t : Option X). option_or t p) is

  pub or_none : (o p : Option X) → p ≡ None → option_or o p ≡ o
  or_none None p is = is
  or_none (Some x) p is = refl

  pub or_twice : (o p : Option X) → option_or o p ≡ option_or o (option_or o p)
  or_twice None p = refl
  or_twice (Some x) p = refl

  -- Functions with the same values are the same.
  pub same_functions : (f g : ℕ → Option X) → ((q : ℕ) → f q ≡ g q) → f ≡ g
  same_functions f g same = λ i q. same q i

  -- What a reference to a value tells of it.
  pub none_of_copied : (o : Option X) (r : Option (Bor X)) → option_copied r ≡ o → is_some r ≡ false → o ≡ None
  none_of_copied o None is none = sym is
  none_of_copied o (Some w) is none = absurd (cc)

  pub some_of_copied : (o : Option X) (r : Option (Bor X)) → option_copied r ≡ o → is_some r ≡ true → IsSome o
  some_of_copied o None is some = absurd (cc)
  some_of_copied o (Some w) is some = rw (← is) refl
