-- What maps and sets of numbers have.
use Rattle.std.proofs.Common.{◌≡◌, ◌≢◌, ◌⊎◌, ◌<◌, ◌&&◌, ◌||◌, not, ℕ, Bool, true, false, cond, T, List, [], ◌∷◌, Some, None, Ordering, Less, Equal, Greater, inl, inr, refl, sym, ap, subst, ◌∙◌, ⊎_elim, arith, eq-eqb, ne_eqb}
use Rattle.std.proofs.lemmas.Bool.{cases_eq, cond-true, cond-false}
use Rattle.std.proofs.lemmas.Bool.Decides.{Decides-eqb}
use Rattle.std.proofs.lemmas.Option.{none-some}
use Rattle.std.specs.List.{Contains}
use Rattle.std.specs.Ordering.{nat_cmp, is_lt, eq_by_cmp}
use Rattle.std.specs.Cmp.{unsigned_tied, ranked, nat_cmp_total}
use Rattle.std.specs.FinMap.{FinMap, get, insert, remove, empty, entries, entries_sorted, get-insert, get-remove, get-empty, get-entries}
use Rattle.std.specs.FinMap.Entries.{find, is_sorted, below_all}
use Rattle.std.specs.FinSet as set
use Rattle.std.specs.FinSet.{FinSet, contains, contains-insert, contains-remove}
use Rattle.fg_peel.proofs.Lists.{Contains-here, Contains-there, Contains-cases, Contains-nil}

-- A key

module _ {X : Type 0} where
  pub nothing_in_empty : (k : ℕ) (x : X) → get (empty {X = X} {R = nat_cmp}) k ≡ Some x → ⊥
  nothing_in_empty k x is = none-some x (sym (get-empty {X = X} nat_cmp k) ∙ is)

  pub in_empty : (k : ℕ) → get (empty {X = X} {R = nat_cmp}) k ≡ None
  in_empty k = get-empty {X = X} nat_cmp k

  pub inserted : (m : FinMap nat_cmp X) (k : ℕ) (v : X) (q : ℕ) → q ≡ k → get (insert m k v) q ≡ Some v
  inserted m k v q same =
      get-insert nat_cmp_total m k v q
      ∙ cond-true (eq_by_cmp nat_cmp q k) (Some v) (get m q) (unsigned_tied q k ∙ eq-eqb q k same)

  pub beside_inserted : (m : FinMap nat_cmp X) (k : ℕ) (v : X) (q : ℕ) → q ≢ k → get (insert m k v) q ≡ get m q
  beside_inserted m k v q other =
      get-insert nat_cmp_total m k v q
      ∙ cond-false (eq_by_cmp nat_cmp q k) (Some v) (get m q) (unsigned_tied q k ∙ ne_eqb q k other)

  pub removed : (m : FinMap nat_cmp X) (k q : ℕ) → q ≡ k → get (remove m k) q ≡ None
  removed m k q same =
      get-remove nat_cmp_total m k q
      ∙ cond-true (eq_by_cmp nat_cmp q k) None (get m q) (unsigned_tied q k ∙ eq-eqb q k same)

  pub beside_removed : (m : FinMap nat_cmp X) (k q : ℕ) → q ≢ k → get (remove m k) q ≡ get m q
  beside_removed m k q other =
      get-remove nat_cmp_total m k q
      ∙ cond-false (eq_by_cmp nat_cmp q k) None (get m q) (unsigned_tied q k ∙ ne_eqb q k other)

-- What is in a set with one more number was in it, or is that number.
pub was_or_inserted : (s : FinSet nat_cmp) (k q : ℕ) → contains (set.insert s k) q ≡ true → (q ≡ k) ⊎ (contains s q ≡ true)
was_or_inserted s k q is = ⊎_elim
    (λ same. inl same)
    (λ other. inr (ap (λ (b : Bool). b || contains s q) (sym (unsigned_tied q k ∙ ne_eqb q k other)) ∙ sym (contains-insert nat_cmp_total s k q) ∙ is))
    (cases_eq q k)

-- What is in a set without a number was in it.
pub was_in : (s : FinSet nat_cmp) (k q : ℕ) → contains (set.remove s k) q ≡ true → contains s q ≡ true
was_in s k q is = go (eq_by_cmp nat_cmp q k) (contains s q) (sym (contains-remove nat_cmp_total s k q) ∙ is)
  where
    go : (b c : Bool) → (not b && c) ≡ true → c ≡ true
    go true c h = absurd (cc)
    go false c h = h

-- The entries: what a map has at a key is one of them, and the other way round

both_true : (a b : Bool) → T (a && b) → T a × T b
both_true true b h = (tt, h)
both_true false b h = absurd h

less : (x y : ℕ) → T (is_lt (nat_cmp x y)) → x < y
less x y h = go (nat_cmp x y) refl h
  where
    go : (r : Ordering) → r ≡ nat_cmp x y → T (is_lt r) → x < y
    go Less e t = ranked x y Less e
    go Equal e t = absurd t
    go Greater e t = absurd t

module _ {X : Type 0} where
  find_here : (k : ℕ) (e : ℕ × X) (es : List (ℕ × X)) → k ≡ e.0 → find nat_cmp k (e ∷ es) ≡ Some e.1
  find_here k e es same =
      let t : eq_by_cmp nat_cmp k e.0 ≡ true = unsigned_tied k e.0 ∙ (Decides-eqb k e.0).1 same in
      ap (λ (b : Bool). cond b (Some e.1) (find nat_cmp k es)) t

  find_there : (k : ℕ) (e : ℕ × X) (es : List (ℕ × X)) → k ≢ e.0 → find nat_cmp k (e ∷ es) ≡ find nat_cmp k es
  find_there k e es other = go (eq_by_cmp nat_cmp k e.0) refl
    where
      go : (b : Bool) → eq_by_cmp nat_cmp k e.0 ≡ b → cond b (Some e.1) (find nat_cmp k es) ≡ find nat_cmp k es
      go true t = absurd (other ((Decides-eqb k e.0).0 (sym (unsigned_tied k e.0) ∙ t)))
      go false t = refl

  -- What is found past a key that is below all others has a greater one.
  below_found : (x : ℕ) (es : List (ℕ × X)) → T (below_all nat_cmp x es) → (k : ℕ) (v : X) → find nat_cmp k es ≡ Some v → x < k
  below_found x [] below k v found = absurd (cc)
  below_found x (e ∷ es) below k v found =
      let both = both_true (is_lt (nat_cmp x e.0)) (below_all nat_cmp x es) below in
      ⊎_elim
      (λ same. let first = less x e.0 both.0 in omega (arith, first, same))
      (λ other. below_found x es both.1 k v (sym (find_there k e es other) ∙ found))
      (cases_eq k e.0)

  -- Each entry of a sorted list is found.
  found_entry : (es : List (ℕ × X)) → T (is_sorted nat_cmp es) → (e : ℕ × X) → Contains es e → find nat_cmp e.0 es ≡ Some e.1
  found_entry [] sorted e c = absurd (Contains-nil e c)
  found_entry (first ∷ es) sorted e c =
      let both = both_true (below_all nat_cmp first.0 es) (is_sorted nat_cmp es) sorted in
      ⊎_elim
      (λ here. subst (λ (x : ℕ × X). find nat_cmp x.0 (first ∷ es) ≡ Some x.1) (sym here) (find_here first.0 first es refl))
      (λ there.
      let found = found_entry es both.1 e there in
      let past = below_found first.0 es both.0 e.0 e.1 found in
      find_there e.0 first es (λ same. omega (arith, same, past)) ∙ found)
      (Contains-cases first es e c)

  -- What is found is an entry.
  entry_found : (es : List (ℕ × X)) (k : ℕ) (v : X) → find nat_cmp k es ≡ Some v → Contains es (k, v)
  entry_found [] k v found = absurd (cc)
  entry_found (e ∷ es) k v found = ⊎_elim
      (λ same.
      let value : Some e.1 ≡ Some v = sym (find_here k e es same) ∙ found in
      let here : ◌≡◌ {A = ℕ × X} (e.0, e.1) (k, v) = (cc) in
      subst (λ (x : ℕ × X). Contains (e ∷ es) x) here (Contains-here e es))
      (λ other. Contains-there e es (k, v) (entry_found es k v (sym (find_there k e es other) ∙ found)))
      (cases_eq k e.0)

  -- An entry of a map is what the map has at its key.
  pub get_of_entry : (m : FinMap nat_cmp X) (e : ℕ × X) → Contains (entries m) e → get m e.0 ≡ Some e.1
  get_of_entry m e c = get-entries m e.0 ∙ found_entry (entries m) (entries_sorted m) e c

  pub entry_of_get : (m : FinMap nat_cmp X) (k : ℕ) (v : X) → get m k ≡ Some v → Contains (entries m) (k, v)
  entry_of_get m k v is = entry_found (entries m) k v (sym (get-entries m k) ∙ is)
