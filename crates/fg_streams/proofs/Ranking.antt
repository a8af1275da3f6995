-- The place of a burst among the longest.
use Rattle.std.proofs.Common.{◌≡◌, ℕ, suc, zero, ◌+◌, ◌<◌, Bool, true, false, cond, List, [], ◌∷◌, ◌++◌, length, take, drop, get_or, reverse, refl, sym, ap, ◌∙◌, append_assoc, arith}
use Rattle.std.proofs.lemmas.List.{drop_more, take_more, take-take, reverse-append}
use Rattle.fg_streams.specs.declared.bursts.Burst.{Burst}
use Rattle.fg_streams.specs.Bursts.{goes_before, longest_of, placed, ranked}

placed_later : (burst x : Burst) (xs : List Burst) → goes_before burst x ≡ false → placed burst (x ∷ xs) ≡ x ∷ placed burst xs
placed_later burst x xs h = ap (λ b. cond b (burst ∷ x ∷ xs) (x ∷ placed burst xs)) h

placed_here : (burst x : Burst) (xs : List Burst) → goes_before burst x ≡ true → placed burst (x ∷ xs) ≡ burst ∷ x ∷ xs
placed_here burst x xs h = ap (λ b. cond b (burst ∷ x ∷ xs) (x ∷ placed burst xs)) h

pub goes_on : (burst : Burst) (xs : List Burst) (i : ℕ) (d : Burst) → i < length xs → goes_before burst (get_or xs i d) ≡ false
    → placed burst xs ≡ take i xs ++ placed burst (drop i xs) → placed burst xs ≡ take (i + 1) xs ++ placed burst (drop (i + 1) xs)
goes_on burst xs i d within later h =
    h ∙ ap (λ t. take i xs ++ placed burst t) (drop_more xs i d within)
    ∙ ap (λ t. take i xs ++ t) (placed_later burst (get_or xs i d) (drop (i + 1) xs) later)
    ∙ sym (append_assoc (take i xs) (get_or xs i d ∷ []) (placed burst (drop (i + 1) xs)))
    ∙ ap (λ t. t ++ placed burst (drop (i + 1) xs)) (sym (take_more xs i d within))

pub goes_here : (burst : Burst) (xs : List Burst) (i : ℕ) (d : Burst) → i < length xs → goes_before burst (get_or xs i d) ≡ true
    → placed burst xs ≡ take i xs ++ placed burst (drop i xs) → placed burst xs ≡ take i xs ++ burst ∷ drop i xs
goes_here burst xs i d within here h =
    h ∙ ap (λ t. take i xs ++ placed burst t) (drop_more xs i d within)
    ∙ ap (λ t. take i xs ++ t) (placed_here burst (get_or xs i d) (drop (i + 1) xs) here ∙ ap (λ t. burst ∷ t) (sym (drop_more xs i d within)))

drop_end : (xs : List Burst) → drop (length xs) xs ≡ []
drop_end [] = refl
drop_end (x ∷ xs) = drop_end xs

pub goes_last : (burst : Burst) (xs : List Burst) → placed burst xs ≡ take (length xs) xs ++ placed burst (drop (length xs) xs) → placed burst xs ≡ take (length xs) xs ++ burst ∷ drop (length xs) xs
goes_last burst xs h =
    h ∙ ap (λ t. take (length xs) xs ++ placed burst t) (drop_end xs) ∙ ap (λ t. take (length xs) xs ++ burst ∷ t) (sym (drop_end xs))

-- only the longest so far matter

front : (n : ℕ) (x : Burst) (xs : List Burst) → take n (x ∷ xs) ≡ take n (x ∷ take n xs)
front zero x xs = refl
front (suc n) x xs = ap (λ t. x ∷ t) (sym (take-take n (suc n) xs (omega arith)))

front_by : (b : Bool) (n : ℕ) (burst x : Burst) (xs : List Burst) → take n (placed burst xs) ≡ take n (placed burst (take n xs))
    → take (suc n) (cond b (burst ∷ x ∷ xs) (x ∷ placed burst xs)) ≡ take (suc n) (cond b (burst ∷ x ∷ take n xs) (x ∷ placed burst (take n xs)))
front_by true n burst x xs rest = ap (λ t. burst ∷ t) (front n x xs)
front_by false n burst x xs rest = ap (λ t. x ∷ t) rest

take_placed : (n : ℕ) (burst : Burst) (xs : List Burst) → take n (placed burst xs) ≡ take n (placed burst (take n xs))
take_placed zero burst xs = refl
take_placed (suc n) burst [] = refl
take_placed (suc n) burst (x ∷ xs) = front_by (goes_before burst x) n burst x xs (take_placed n burst xs)

pub longest_more : (burst : Burst) (bursts : List Burst) → take 10 (placed burst (longest_of bursts)) ≡ longest_of (bursts ++ burst ∷ [])
longest_more burst bursts =
    sym (take_placed 10 burst (ranked (reverse bursts))) ∙ ap (λ t. take 10 (ranked t)) (sym (reverse-append bursts (burst ∷ [])))
