-- Bytes that are 0.
use Rattle.std.proofs.Common.{◌≡◌, ℕ, zero, suc, ◌<◌, ◌≤◌, bit_xor, List, [], ◌∷◌, get_or, replicate, refl, ap, ⊎_elim, ◌∙◌, arith}
use Rattle.std.specs.Simd.Lanes.{zip2}
use Rattle.std.proofs.lemmas.Bool.{cases_lt}
use Rattle.std.proofs.lemmas.List.{get_or_past, get_or-replicate, length-replicate}

pub zeros_everywhere : (n i : ℕ) → get_or (replicate {A = ℕ} n 0) i 0 ≡ 0
zeros_everywhere n i = ⊎_elim
    (λ (inside : i < n). get_or-replicate n i 0 0 inside)
    (λ (past : n ≤ i). get_or_past (replicate n 0) i 0 (omega (arith, length-replicate {A = ℕ} n 0)))
    (cases_lt i n)

-- The sum of two bytes that are 0 is 0.
pub zero_at : (xs ys : List ℕ) (i : ℕ) → get_or xs i 0 ≡ 0 → get_or ys i 0 ≡ 0 → get_or (zip2 bit_xor xs ys) i 0 ≡ 0
zero_at [] ys i x y = refl
zero_at (a ∷ xs) [] i x y = refl
zero_at (a ∷ xs) (b ∷ ys) zero x y = ap (λ (n : ℕ). bit_xor n b) x ∙ ap (λ (n : ℕ). bit_xor 0 n) y
zero_at (a ∷ xs) (b ∷ ys) (suc i) x y = zero_at xs ys i x y
