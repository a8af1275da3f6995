-- The sum of the words at an equation's slots, with one slot taken out.
use Rattle.std.proofs.Common.{◌≡◌, ◌≢◌, ℕ, List, [], ◌∷◌, Option, Some, None, refl, sym, ap, ◌∙◌, ⊎_elim}
use Rattle.std.specs.List.{Contains, filter_map, cons_option}
use Rattle.fg_words.specs.declared.Word.{Word}
use Rattle.fg_words.specs.Word.{word_xor, word_sum, HasRoom}
use Rattle.fg_words.proofs.WordLemmas.{word_xor-swap, HasRoom-zero, HasRoom-xor}
use Rattle.fg_peel.specs.Equation.{others, sum_at}
use Rattle.fg_peel.proofs.Lists.{Contains-here, Contains-there, Contains-nil, Contains-cases, Distinct, others-dropped, others-kept, same_or_not}

-- Two assignments that agree at a list's positions have the same sum there.
pub filter_map-agree :
    (one other : ℕ → Option Word) (xs : List ℕ) → ((q : ℕ) → Contains xs q → one q ≡ other q)
    → filter_map one xs ≡ filter_map other xs
filter_map-agree one other [] same = refl
filter_map-agree one other (x ∷ xs) same =
    ap (λ (o : Option Word). cons_option o (filter_map one xs)) (same x (Contains-here x xs))
    ∙ ap
    (λ (ws : List Word). cons_option (other x) ws)
    (filter_map-agree one other xs (λ q c. same q (Contains-there x xs q c)))

pub sum_at-agree :
    (one other : ℕ → Option Word) (xs : List ℕ) → ((q : ℕ) → Contains xs q → one q ≡ other q)
    → sum_at one xs ≡ sum_at other xs
sum_at-agree one other xs same = ap word_sum (filter_map-agree one other xs same)

-- The sum has room where the words have.
pub HasRoom-sum_at :
    (words : ℕ → Option Word) → ((q : ℕ) (w : Word) → words q ≡ Some w → HasRoom w)
    → (xs : List ℕ) → HasRoom (sum_at words xs)
HasRoom-sum_at words room [] = HasRoom-zero
HasRoom-sum_at words room (x ∷ xs) = go (words x) refl (HasRoom-sum_at words room xs)
  where
    go :
        (o : Option Word) → words x ≡ o → HasRoom (sum_at words xs)
        → HasRoom (word_sum (cons_option o (filter_map words xs)))
    go None e r = r
    go (Some w) e r = HasRoom-xor w (sum_at words xs) (room x w e) r

-- The word at a position taken out.
pub sum_at-split :
    (words : ℕ → Option Word) (p : ℕ) (w : Word) → words p ≡ Some w → (xs : List ℕ) → Distinct xs → Contains xs p
    → sum_at words xs ≡ word_xor w (sum_at words (others p xs))
sum_at-split words p w is [] d c = absurd (Contains-nil p c)
sum_at-split words p w is (x ∷ xs) d c =
    ⊎_elim
    (λ same. at_head same)
    (λ n.
    let there : Contains xs p = ⊎_elim (λ s. absurd (n (sym s))) (λ t. t) (Contains-cases x xs p c) in
    in_tail n (sum_at-split words p w is xs d.1 there))
    (same_or_not x p)
  where
    at_head : x ≡ p → sum_at words (x ∷ xs) ≡ word_xor w (sum_at words (others p (x ∷ xs)))
    at_head same =
        let absent : others p (x ∷ xs) ≡ xs = others-dropped p x xs same d.0 in
        let here : words x ≡ Some w = rw same is in
        rw (absent, here)

    in_tail :
        x ≢ p → sum_at words xs ≡ word_xor w (sum_at words (others p xs))
        → sum_at words (x ∷ xs) ≡ word_xor w (sum_at words (others p (x ∷ xs)))
    in_tail n r = rw (others-kept p x xs n) (go (words x))
      where
        go :
            (o : Option Word)
            → word_sum (cons_option o (filter_map words xs))
            ≡ word_xor w (word_sum (cons_option o (filter_map words (others p xs))))
        go None = r
        go (Some v) = ap (λ (u : Word). word_xor v u) r ∙ word_xor-swap v w (sum_at words (others p xs))
