-- Lists of views of which one is replaced, or one is added at the end.
use Rattle.std.proofs.Common.{◌≡◌, ℕ, zero, suc, ◌+◌, ◌≤◌, ◌≢◌, List, [], ◌∷◌, ◌++◌, set, length, sym, refl, ap, ◌∙◌, subst, ⊎_elim, zero-le, arith}
use Rattle.std.specs.List.{sum_by}
use Rattle.std.proofs.lemmas.List.Sums.{sum_by-cons}
use mathlib.Core.Option.{some, some-injective, some-ne-none}
use lib.ListN.{get_elem?}
use Rattle.atomic_table.proofs.Lists.{at_set, at_snoc}

module _ {V : Type 0} where
  pub same_view : (views : List V) (i j : ℕ) (v w : V) → get_elem? views i ≡ some v → get_elem? views j ≡ some w → i ≡ j → v ≡ w
  same_view views i j v w at at' e = some-injective v w (sym at ∙ (ap (λ (k : ℕ). get_elem? views k) e ∙ at'))

  pub sum_set : (f : V → ℕ) (views : List V) (i : ℕ) (v w : V) → get_elem? views i ≡ some v → sum_by f (set views i w) + f v ≡ sum_by f views + f w
  sum_set f [] i v w at = absurd (some-ne-none v (sym at))
  sum_set f (x ∷ xs) zero v w at = let e : f x ≡ f v = ap f (some-injective x v at) in omega (arith, sum_by-cons f x xs, sum_by-cons f w xs)
  sum_set f (x ∷ xs) (suc i) v w at = let k = sum_set f xs i v w at in omega (arith, sum_by-cons f x xs, sum_by-cons f x (set xs i w))

  pub sum_has : (f : V → ℕ) (views : List V) (i : ℕ) (v : V) → get_elem? views i ≡ some v → f v ≤ sum_by f views
  sum_has f [] i v at = absurd (some-ne-none v (sym at))
  sum_has f (x ∷ xs) zero v at = let e : f x ≡ f v = ap f (some-injective x v at) in omega (arith, sum_by-cons f x xs)
  sum_has f (x ∷ xs) (suc i) v at = let k = sum_has f xs i v at in omega (arith, sum_by-cons f x xs)

  pub sum_has_two : (f : V → ℕ) (views : List V) (i j : ℕ) (v w : V) → i ≢ j → get_elem? views i ≡ some v → get_elem? views j ≡ some w → f v + f w ≤ sum_by f views
  sum_has_two f [] i j v w ne at at' = absurd (some-ne-none v (sym at))
  sum_has_two f (x ∷ xs) zero zero v w ne at at' = absurd (ne refl)
  sum_has_two f (x ∷ xs) zero (suc j) v w ne at at' = let e : f x ≡ f v = ap f (some-injective x v at) in let k = sum_has f xs j w at' in omega (arith, sum_by-cons f x xs)
  sum_has_two f (x ∷ xs) (suc i) zero v w ne at at' = let e : f x ≡ f w = ap f (some-injective x w at') in let k = sum_has f xs i v at in omega (arith, sum_by-cons f x xs)
  sum_has_two f (x ∷ xs) (suc i) (suc j) v w ne at at' = let k = sum_has_two f xs i j v w (λ e. ne (ap suc e)) at at' in omega (arith, sum_by-cons f x xs)

  pub sum_below : (f h : V → ℕ) (views : List V) → ((v : V) → f v ≤ h v) → sum_by f views ≤ sum_by h views
  sum_below f h [] le = zero-le
  sum_below f h (x ∷ xs) le = let a = le x in let b = sum_below f h xs le in omega (arith, sum_by-cons f x xs, sum_by-cons h x xs)

  pub set_at : (views : List V) (i : ℕ) (v w : V) → get_elem? views i ≡ some v → get_elem? (set views i w) i ≡ some w
  set_at [] i v w at = absurd (some-ne-none v (sym at))
  set_at (x ∷ xs) zero v w at = refl
  set_at (x ∷ xs) (suc i) v w at = set_at xs i v w at

  -- what holds of the new view, and of each other one, holds of all after one is replaced
  pub each_set : (P : ℕ → V → Type 0) (views : List V) (i : ℕ) (w : V) → P i w → ((j : ℕ) (u : V) → j ≢ i → get_elem? views j ≡ some u → P j u)
      → (j : ℕ) (u : V) → get_elem? (set views i w) j ≡ some u → P j u
  each_set P views i w here others j u at = ⊎_elim
      (λ t. let at_w : P j w = subst (λ (k : ℕ). P k w) (sym t.0) here in subst (P j) t.1 at_w)
      (λ t. others j u t.0 t.1)
      (at_set views i j w u at)

  -- the new view stands at the end
  pub each_last : (P : ℕ → V → Type 0) (views : List V) (w : V) → P (length views) w → ((j : ℕ) (u : V) → get_elem? views j ≡ some u → P j u)
      → (j : ℕ) (u : V) → get_elem? (views ++ w ∷ []) j ≡ some u → P j u
  each_last P [] w here others zero u at = subst (P 0) (some-injective w u at) here
  each_last P [] w here others (suc j) u at = absurd (some-ne-none u (sym at))
  each_last P (x ∷ xs) w here others zero u at = others 0 u at
  each_last P (x ∷ xs) w here others (suc j) u at = each_last (λ k. P (suc k)) xs w here (λ k. others (suc k)) j u at

  pub each_snoc : (P : ℕ → V → Type 0) (views : List V) (w : V) → ((j : ℕ) → P j w) → ((j : ℕ) (u : V) → get_elem? views j ≡ some u → P j u)
      → (j : ℕ) (u : V) → get_elem? (views ++ w ∷ []) j ≡ some u → P j u
  each_snoc P views w here others j u at = ⊎_elim (λ t. others j u t) (λ (e : w ≡ u). subst (P j) e (here j)) (at_snoc views w u j at)
