-- How many of a list pass a test.
use Rattle.std.proofs.Common.{◌≡◌, ℕ, zero, suc, ◌+◌, ◌<◌, ◌≤◌, Bool, true, false, cond, not, List, [], ◌∷◌, length, refl, ap, ◌∙◌, arith}
use Rattle.std.specs.List.{count_by, range_with_len}
use Rattle.std.proofs.lemmas.List.Sums.{sum_by-cons, sum_by_push}
use Rattle.fg_encode.proofs.ListLemmas.{range_more}

abbrev pub one_if : Bool → ℕ
one_if b = cond b 1 0

pub count_cons : {X : Type 0} (p : X → Bool) (x : X) (xs : List X) → count_by p (x ∷ xs) ≡ one_if (p x) + count_by p xs
count_cons p x xs = sum_by-cons (λ y. cond (p y) 1 0) x xs

-- A range ends with its last number.
pub count_more : (p : ℕ → Bool) (a n : ℕ) → count_by p (range_with_len a (suc n)) ≡ count_by p (range_with_len a n) + one_if (p (a + n))
count_more p a n =
    ap (λ (l : List ℕ). count_by p l) (range_more a n) ∙ sum_by_push (λ y. cond (p y) 1 0) (range_with_len a n) (a + n)

-- None of those that come after passes.
pub count_none_more : (p : ℕ → Bool) (a n k : ℕ) → ((j : ℕ) → a + n ≤ j → j < a + n + k → p j ≡ false)
    → count_by p (range_with_len a (n + k)) ≡ count_by p (range_with_len a n)
count_none_more p a n zero none = let same : n + zero ≡ n = omega arith in ap (λ m. count_by p (range_with_len a m)) same
count_none_more p a n (suc k) none =
    let same : n + suc k ≡ suc (n + k) = omega arith in
    let rest = count_none_more p a n k (λ j low high. none j low (omega (arith, high))) in
    let last = ap one_if (none (a + (n + k)) (omega arith) (omega arith)) in
    let more = count_more p a (n + k) in
    let all = ap (λ m. count_by p (range_with_len a m)) same in
    omega (arith, rest, last, more, all)

both_ways : (b : Bool) → one_if b + one_if (not b) ≡ 1
both_ways true = refl
both_ways false = refl

-- Each passes or doesn't.
pub count_not : {X : Type 0} (p : X → Bool) (xs : List X) → count_by p xs + count_by (λ x. not (p x)) xs ≡ length xs
count_not p [] = refl
count_not p (x ∷ xs) =
    let one = count_cons p x xs in
    let other = count_cons (λ y. not (p y)) x xs in
    let here = both_ways (p x) in
    let rest = count_not p xs in
    omega (arith, one, other, here, rest)
