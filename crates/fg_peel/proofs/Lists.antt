-- Elements of a list, one after another.
use Rattle.std.proofs.Common.{◌≡◌, ◌≢◌, ◌⊎◌, ◌<◌, ◌==◌, ℕ, zero, suc, Bool, true, false, List, [], ◌∷◌, map, length, get_or, inl, inr, refl, sym, ap, subst, ◌∙◌, ⊎_elim, arith}
use Rattle.std.specs.List.{Contains}
use Rattle.std.proofs.lemmas.Bool.Decides.{Decides-eqb}
use Rattle.fg_peel.specs.Equation.{others}

pub Contains-here : {X : Type 0} (x : X) (xs : List X) → Contains (x ∷ xs) x
Contains-here x xs = (0, omega arith, refl)

pub Contains-there : {X : Type 0} (x : X) (xs : List X) (y : X) → Contains xs y → Contains (x ∷ xs) y
Contains-there x xs y h = (suc h.0, omega (arith, h.1), h.2)

pub Contains-cases : {X : Type 0} (x : X) (xs : List X) (y : X) → Contains (x ∷ xs) y → (y ≡ x) ⊎ Contains xs y
Contains-cases {X} x xs y h = go h.0 h.1 h.2
  where
    go : (k : ℕ) → k < length (x ∷ xs) → get_or (x ∷ xs) k y ≡ y → (y ≡ x) ⊎ Contains xs y
    go zero l e = inl (sym e)
    go (suc k) l e = inr (k, omega arith, e)

pub Contains-nil : {X : Type 0} (y : X) → Contains [] y → ⊥
Contains-nil y h = omega (arith, h.1)

pub Contains-map : {X Y : Type 0} (f : X → Y) (xs : List X) (x : X) → Contains xs x → Contains (map f xs) (f x)
Contains-map f [] x c = absurd (Contains-nil x c)
Contains-map f (y ∷ xs) x c = ⊎_elim
    (λ here. rw here (Contains-here (f y) (map f xs)))
    (λ there. Contains-there (f y) (map f xs) (f x) (Contains-map f xs x there))
    (Contains-cases y xs x c)

pub Contains-from_map : {X Y : Type 0} (f : X → Y) (xs : List X) (y : Y) → Contains (map f xs) y → (x : X) × Contains xs x × (f x ≡ y)
Contains-from_map f [] y c = absurd (Contains-nil y c)
Contains-from_map f (x ∷ xs) y c = ⊎_elim
    (λ here. (x, Contains-here x xs, sym here))
    (λ there. let r = Contains-from_map f xs y there in (r.0, Contains-there x xs r.0 r.1, r.2))
    (Contains-cases (f x) (map f xs) y c)

-- A list whose elements differ from each other.
abbrev pub Distinct : List ℕ → Type 0
Distinct [] = Unit {0}
Distinct (x ∷ xs) = (Contains xs x → ⊥) × Distinct xs

-- What is an element of the list without p.
pub others-element : (p : ℕ) (xs : List ℕ) (q : ℕ) → Contains (others p xs) q → Contains xs q × (q ≢ p)
others-element p [] q h = absurd (Contains-nil q h)
others-element p (x ∷ xs) q h = go (x == p) refl (others-element p xs q) h
  where
    go :
        (b : Bool) → (x == p) ≡ b → (Contains (others p xs) q → Contains xs q × (q ≢ p))
        → Contains (others p (x ∷ xs)) q → Contains (x ∷ xs) q × (q ≢ p)
    go true e rest h = let c : Contains (others p xs) q = (rw e at h) in (Contains-there x xs q (rest c).0, (rest c).1)
    go false e rest h =
        let c : Contains (x ∷ others p xs) q = (rw e at h) in
        ⊎_elim
        (λ s. (
          rw s (Contains-here x xs),
          λ n. (let t : (x == p) ≡ true = (Decides-eqb x p).1 (sym s ∙ n) in cc),
        ))
        (λ r. (Contains-there x xs q (rest r).0, (rest r).1))
        (Contains-cases x (others p xs) q c)

-- Without p, a list that doesn't have it is the same.
pub others-absent : (p : ℕ) (xs : List ℕ) → (Contains xs p → ⊥) → others p xs ≡ xs
others-absent p [] n = refl
others-absent p (x ∷ xs) n = go (x == p) refl (others-absent p xs (λ c. n (Contains-there x xs p c)))
  where
    go : (b : Bool) → (x == p) ≡ b → others p xs ≡ xs → others p (x ∷ xs) ≡ x ∷ xs
    go true e r = let same : x ≡ p = (Decides-eqb x p).0 e in absurd (n (rw same (Contains-here p xs)))
    go false e r = rw e (ap (λ (l : List ℕ). x ∷ l) r)

-- The head of a list is left out if it is p, and stays otherwise.
others-head : (x : ℕ) (xs : List ℕ) → others x (x ∷ xs) ≡ others x xs
others-head x xs = let t : (x == x) ≡ true = (Decides-eqb x x).1 refl in rw t

pub others-dropped : (p x : ℕ) (xs : List ℕ) → x ≡ p → (Contains xs x → ⊥) → others p (x ∷ xs) ≡ xs
others-dropped p x xs same absent =
    subst (λ q. others q (x ∷ xs) ≡ xs) same (others-head x xs ∙ others-absent x xs absent)

pub others-kept : (p x : ℕ) (xs : List ℕ) → x ≢ p → others p (x ∷ xs) ≡ x ∷ others p xs
others-kept p x xs n = go (x == p) refl
  where
    go : (b : Bool) → (x == p) ≡ b → others p (x ∷ xs) ≡ x ∷ others p xs
    go true e = absurd (n ((Decides-eqb x p).0 e))
    go false e = rw e

-- Whether two positions are the same.
pub same_or_not : (x p : ℕ) → (x ≡ p) ⊎ (x ≢ p)
same_or_not x p = go (x == p) refl
  where
    go : (b : Bool) → (x == p) ≡ b → (x ≡ p) ⊎ (x ≢ p)
    go true e = inl ((Decides-eqb x p).0 e)
    go false e = inr (λ same. (let t : (x == p) ≡ true = (Decides-eqb x p).1 same in cc))

-- A list either has an element with P, or each of its elements has Q.
pub some_or_all :
    {X : Type 0} (P Q : X → Type 0) → ((x : X) → P x ⊎ Q x) → (xs : List X)
    → ((x : X) × Contains xs x × P x) ⊎ ((x : X) → Contains xs x → Q x)
some_or_all P Q test [] = inr (λ x c. absurd (Contains-nil x c))
some_or_all {X} P Q test (x ∷ xs) =
    ⊎_elim
    (λ p. inl (x, Contains-here x xs, p))
    (λ q. ⊎_elim
    (λ r. inl (r.0, Contains-there x xs r.0 r.1, r.2))
    (λ a. inr (λ y c. ⊎_elim (λ s. rw s q) (a y) (Contains-cases x xs y c)))
    (some_or_all P Q test xs))
    (test x)

-- What is left out of a list is left out of its rest.
pub others-head_dropped : (p x : ℕ) (xs : List ℕ) → x ≡ p → others p (x ∷ xs) ≡ others p xs
others-head_dropped p x xs same = subst (λ q. others q (x ∷ xs) ≡ others q xs) same (others-head x xs)
