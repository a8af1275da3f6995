-- Which slots are missing, from the first on.
use Rattle.std.proofs.Common.{◌≡◌, ◌≢◌, ◌⊎◌, ◌<◌, ◌≤◌, ◌+◌, ◌*◌, ◌++◌, ℕ, Bool, true, false, not, cond, List, [], ◌∷◌, map, length, refl, sym, ap, subst, ◌∙◌, ⊎_elim, arith, append-nil, zero-add}
use Rattle.std.proofs.lemmas.Bool.{both_ways}
use Rattle.std.proofs.lemmas.List.FromFn.{filter_of_map_range_with_len_more, length-map-range_with_len}
use Rattle.std.specs.List.{Contains, filter, range_with_len}
use Rattle.std.specs.FinSet.{contains}
use Rattle.fg_peel.proofs.Lists.{Contains-here, Contains-there, Contains-nil, Contains-cases}
use Rattle.fg_tally.specs.Counting.{missing_among}
use Rattle.fg_tally.specs.Folding.{slots_in}
use Rattle.fg_tally.proofs.Bits.{bit_is_in, clear_is_out}
use Rattle.std.specs.Int.{bit_at}

-- A filter

module _ (p : ℕ → Bool) where
  -- It keeps what passes,
  pub kept : (xs : List ℕ) (x : ℕ) → Contains xs x → p x ≡ true → Contains (filter p xs) x
  kept [] x c passes = absurd (Contains-nil x c)
  kept (y ∷ xs) x c passes = go (p y) refl (Contains-cases y xs x c) (kept xs x)
    where
      go : (b : Bool) → p y ≡ b → (x ≡ y) ⊎ Contains xs x → (Contains xs x → p x ≡ true → Contains (filter p xs) x)
          → Contains (cond b (y ∷ filter p xs) (filter p xs)) x
      go true e h rest = ⊎_elim
          (λ same. subst (Contains (y ∷ filter p xs)) (sym same) (Contains-here y (filter p xs)))
          (λ there. Contains-there y (filter p xs) x (rest there passes)) h
      go false e h rest = ⊎_elim
          (λ same. absurd (both_ways (p y) e (sym (ap p same) ∙ passes)))
          (λ there. rest there passes) h

  -- and nothing else.
  pub was_kept : (xs : List ℕ) (x : ℕ) → Contains (filter p xs) x → Contains xs x × (p x ≡ true)
  was_kept [] x c = absurd (Contains-nil x c)
  was_kept (y ∷ xs) x c = go (p y) refl c (was_kept xs x)
    where
      go : (b : Bool) → p y ≡ b → Contains (cond b (y ∷ filter p xs) (filter p xs)) x
          → (Contains (filter p xs) x → Contains xs x × (p x ≡ true)) → Contains (y ∷ xs) x × (p x ≡ true)
      go true e c rest = ⊎_elim
          (λ same. (subst (Contains (y ∷ xs)) (sym same) (Contains-here y xs), ap p same ∙ e))
          (λ there. (Contains-there y xs x (rest there).0, (rest there).1))
          (Contains-cases y (filter p xs) x c)
      go false e c rest = (Contains-there y xs x (rest c).0, (rest c).1)

  -- It is no longer.
  short : (xs : List ℕ) → length (filter p xs) ≤ length xs
  short [] = omega arith
  short (x ∷ xs) = go (p x) (short xs)
    where
      go : (b : Bool) → length (filter p xs) ≤ length xs → length (cond b (x ∷ filter p xs) (filter p xs)) ≤ length (x ∷ xs)
      go true h = omega (arith, h)
      go false h = omega (arith, h)

-- By bits

pub few_missing : (bits base offset count n : ℕ) → length (missing_among bits base offset count n) ≤ n
few_missing bits base offset count n =
    let all = short (λ slot. not (contains (slots_in bits base offset count) slot)) (map (λ j. base + j * offset) (range_with_len 0 n)) in
    subst (λ (m : ℕ). length (missing_among bits base offset count n) ≤ m)
    (length-map-range_with_len (λ j. base + j * offset) 0 n) all

module _ (bits base offset count : ℕ) where
  one_more : (j : ℕ) → missing_among bits base offset count (j + 1)
      ≡ missing_among bits base offset count j
      ++ cond (not (contains (slots_in bits base offset count) (base + j * offset))) ((base + j * offset) ∷ []) []
  one_more j = filter_of_map_range_with_len_more (λ slot. not (contains (slots_in bits base offset count) slot))
      (λ i. base + i * offset) 0 j j (zero-add j)

  -- One of a bit that is set isn't,
  pub more_with_set : (j : ℕ) → j < count → bit_at bits j ≡ 1 → missing_among bits base offset count (j + 1) ≡ missing_among bits base offset count j
  more_with_set j below set =
      one_more j
      ∙ ap (λ (b : Bool). missing_among bits base offset count j ++ cond (not b) ((base + j * offset) ∷ []) [])
      (bit_is_in bits base offset count j below set)
      ∙ append-nil (missing_among bits base offset count j)

  -- and one of a bit that is clear is.
  pub more_with_clear : (j : ℕ) → 1 ≤ offset → bit_at bits j ≢ 1 → missing_among bits base offset count (j + 1) ≡ missing_among bits base offset count j ++ (base + j * offset) ∷ []
  more_with_clear j some clear =
      one_more j
      ∙ ap (λ (b : Bool). missing_among bits base offset count j ++ cond (not b) ((base + j * offset) ∷ []) [])
      (clear_is_out bits base offset count j some clear)
