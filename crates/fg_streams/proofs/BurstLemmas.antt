-- Bursts of losses, as times are added at the end.
use Rattle.std.proofs.Common.{◌≡◌, ℕ, suc, zero, ◌+◌, ◌<◌, ◌≤◌, ◌^◌, ltb as nat_lt, Bool, Option, Some, None, List, [], ◌∷◌, ◌++◌, length, replicate, refl, sym, ap, ◌∙◌, append_assoc, append-nil, arith, length-append}
use Rattle.std.specs.Prelude.{count_by}
use Rattle.std.proofs.lemmas.List.Sums.{count_by-le-length}
use Rattle.fg_streams.specs.declared.bursts.Burst.{Burst}
use Rattle.fg_streams.specs.Bursts.{burst_of, bursts_from, lasts, lengths_of, lost_at_front}
use Rattle.fg_streams.specs.Steps.{LengthsHaveRoom}

lost_stop : (xs : List (Option ℕ)) (t : ℕ) → lost_at_front (xs ++ Some t ∷ []) ≡ lost_at_front xs
lost_stop [] t = refl
lost_stop (None ∷ xs) t = ap (λ n. 1 + n) (lost_stop xs t)
lost_stop (Some u ∷ xs) t = refl

-- what is received last begins no burst
pub bursts_stop : (slot : ℕ) (xs : List (Option ℕ)) (t : ℕ) → bursts_from slot (xs ++ Some t ∷ []) ≡ bursts_from slot xs
bursts_stop slot [] t = refl
bursts_stop slot (None ∷ xs) t = bursts_stop (slot + 1) xs t
bursts_stop slot (Some u ∷ xs) t =
    ap (λ n. burst_of (slot + 1) u n ++ bursts_from (slot + 1) (xs ++ Some t ∷ [])) (lost_stop xs t)
    ∙ ap (λ b. burst_of (slot + 1) u (lost_at_front xs) ++ b) (bursts_stop (slot + 1) xs t)

lost_all : (n : ℕ) → lost_at_front (replicate n None) ≡ n
lost_all zero = refl
lost_all (suc n) = let rest : lost_at_front (replicate n None) ≡ n = lost_all n in ap (λ k. 1 + k) rest ∙ omega arith

-- losses behind nothing are no burst
pub bursts_none : (slot n : ℕ) → bursts_from slot (replicate n None) ≡ []
bursts_none slot zero = refl
bursts_none slot (suc n) = bursts_none (slot + 1) n

lost_past : (xs ys : List (Option ℕ)) (t : ℕ) → lost_at_front (xs ++ Some t ∷ ys) ≡ lost_at_front (xs ++ Some t ∷ [])
lost_past [] ys t = refl
lost_past (None ∷ xs) ys t = ap (λ n. 1 + n) (lost_past xs ys t)
lost_past (Some u ∷ xs) ys t = refl

-- losses at the end are a burst
pub bursts_end : (slot : ℕ) (xs : List (Option ℕ)) (t n m : ℕ) → m ≡ slot + length xs + 1
    → bursts_from slot (xs ++ Some t ∷ replicate n None) ≡ bursts_from slot (xs ++ Some t ∷ []) ++ burst_of m t n
bursts_end slot [] t n m here =
    let at : slot + 1 ≡ m = omega (arith, here) in
    ap (λ b. burst_of (slot + 1) t (lost_at_front (replicate n None)) ++ b) (bursts_none (slot + 1) n)
    ∙ append-nil (burst_of (slot + 1) t (lost_at_front (replicate n None)))
    ∙ ap (λ k. burst_of (slot + 1) t k) (lost_all n) ∙ ap (λ k. burst_of k t n) at
bursts_end slot (None ∷ xs) t n m here = bursts_end (slot + 1) xs t n m (omega (arith, here))
bursts_end slot (Some u ∷ xs) t n m here =
    ap (λ k. burst_of (slot + 1) u k ++ bursts_from (slot + 1) (xs ++ Some t ∷ replicate n None)) (lost_past xs (replicate n None) t)
    ∙ ap (λ b. burst_of (slot + 1) u (lost_at_front (xs ++ Some t ∷ [])) ++ b) (bursts_end (slot + 1) xs t n m (omega (arith, here)))
    ∙ sym (append_assoc (burst_of (slot + 1) u (lost_at_front (xs ++ Some t ∷ []))) (bursts_from (slot + 1) (xs ++ Some t ∷ [])) (burst_of m t n))

-- There are few

one_burst : (slot t n : ℕ) → length (burst_of slot t n) ≤ 1
one_burst slot t zero = omega arith
one_burst slot t (suc n) = omega arith

pub few_bursts : (slot : ℕ) (xs : List (Option ℕ)) → length (bursts_from slot xs) ≤ length xs
few_bursts slot [] = omega arith
few_bursts slot (None ∷ xs) = let rest = few_bursts (slot + 1) xs in omega (arith, rest)
few_bursts slot (Some t ∷ xs) =
    let rest = few_bursts (slot + 1) xs in
    let one = one_burst (slot + 1) t (lost_at_front xs) in
    let both = length-append (burst_of (slot + 1) t (lost_at_front xs)) (bursts_from (slot + 1) xs) in
    omega (arith, rest, one, both)

pub lengths_have_room : (bursts : List Burst) → length bursts < 2 ^ 60 → LengthsHaveRoom (lengths_of bursts)
lengths_have_room bursts few =
    let counted : (test : Burst → Bool) → count_by test bursts < 2 ^ 60 = λ test. let least = count_by-le-length test bursts in omega (arith, least, few) in
    (few, counted (lasts 1 1), counted (lasts 2 2), counted (lasts 3 4), counted (lasts 5 8), counted (lasts 9 16), counted (lasts 17 32), counted (λ burst. nat_lt 32 burst.length))
