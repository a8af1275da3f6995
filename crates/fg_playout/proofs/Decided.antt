-- Facts that hold or do not, of a list's elements and of numbers below a limit.
use Rattle.std.proofs.Common.{◌≡◌, ◌⊎◌, ◌<◌, ℕ, zero, suc, List, [], ◌∷◌, inl, inr, sym, subst, ⊎_elim, arith}
use Rattle.std.proofs.lemmas.Bool.{cases_lt}
use Rattle.std.specs.List.{Contains}
pub use Rattle.fg_words.proofs.DecisionLemmas.{IsDecided, decided_both, decided_either, decided_if, decided_as, decided_below, decided_less, decided_most, decided_words, decided_media}
use Rattle.fg_peel.specs.Verdict.{IsLeast}
use Rattle.fg_peel.proofs.Lists.{Contains-here, Contains-there, Contains-cases, Contains-nil}
use Rattle.fg_peel.specs.Words.{IsGreatest}

-- Of a list's elements.
module _ {X : Type 0} (P : X → Type 0) (each : (x : X) → IsDecided (P x)) where
  pub decided_all : (xs : List X) → IsDecided ((x : X) → Contains xs x → P x)
  decided_all [] = inl (λ x c. absurd (Contains-nil x c))
  decided_all (x ∷ xs) = ⊎_elim
      (λ here. ⊎_elim
      (λ rest. inl (λ y c. ⊎_elim (λ same. subst P (sym same) here) (rest y) (Contains-cases x xs y c)))
      (λ no. inr (λ all. no (λ y c. all y (Contains-there x xs y c))))
      (decided_all xs))
      (λ no. inr (λ all. no (all x (Contains-here x xs))))
      (each x)

  pub decided_any : (xs : List X) → IsDecided ((x : X) × Contains xs x × P x)
  decided_any [] = inr (λ some. Contains-nil some.0 some.1)
  decided_any (x ∷ xs) = ⊎_elim
      (λ here. inl (x, Contains-here x xs, here))
      (λ no. ⊎_elim
      (λ some. inl (some.0, Contains-there x xs some.0 some.1, some.2))
      (λ none. inr (λ some. ⊎_elim
      (λ same. no (subst P same some.2))
      (λ there. none (some.0, there, some.2))
      (Contains-cases x xs some.0 some.1)))
      (decided_any xs))
      (each x)

-- Of the numbers below a limit.
module _ (P : ℕ → Type 0) (each : (n : ℕ) → IsDecided (P n)) where
  -- Where all that have the property lie below the limit, there is a greatest, or there are none.
  pub greatest_or_none :
      (limit : ℕ) → ((n : ℕ) → P n → n < limit) → ((n : ℕ) × IsGreatest P n) ⊎ ((n : ℕ) → P n → ⊥)
  greatest_or_none zero bound = inr (λ n p. (let below = bound n p in omega (arith, below)))
  greatest_or_none (suc limit) bound = ⊎_elim
      (λ here. inl (limit, record { inside = here; greatest = λ m p. (let below = bound m p in omega (arith, below)) }))
      (λ no. greatest_or_none limit (λ n p. ⊎_elim
      (λ less. less)
      (λ past. (let below = bound n p in let same : n ≡ limit = omega (arith, below, past) in absurd (no (subst P same p))))
      (cases_lt n limit)))
      (each limit)

  least_or_none : (limit : ℕ) → ((n : ℕ) × IsLeast P n) ⊎ ((n : ℕ) → n < limit → P n → ⊥)
  least_or_none zero = inr (λ n below p. omega (arith, below))
  least_or_none (suc limit) = ⊎_elim
      (λ found. inl found)
      (λ none. ⊎_elim
      (λ here. inl (limit, (here, λ m p. ⊎_elim (λ less. absurd (none m less p)) (λ past. past) (cases_lt m limit))))
      (λ no. inr (λ n below p. ⊎_elim
      (λ less. none n less p)
      (λ past. (let same : n ≡ limit = omega (arith, below, past) in no (subst P same p)))
      (cases_lt n limit)))
      (each limit))
      (least_or_none limit)

  -- Where one has it, there is a least.
  pub least_of : (n : ℕ) → P n → (m : ℕ) × IsLeast P m
  least_of n p = ⊎_elim
      (λ found. found)
      (λ none. absurd (none n (omega arith) p))
      (least_or_none (suc n))
