-- Lemmas on the texts of a list's elements, one after another.
use Rattle.std.proofs.Common.{◌≡◌, ℕ, suc, ◌+◌, ◌<◌, List, [], ◌∷◌, ◌++◌, length, take, drop, get_or, sym, ap, ◌∙◌, append-nil, add-one}
use Rattle.std.specs.List.{flat_map}
use Rattle.std.proofs.Math.Seq.{drop-cons, take-suc}
use Rattle.std.proofs.lemmas.Grind.{flat_map-append}
use Rattle.std.proofs.lemmas.List.{take-append-drop}

-- the texts of the first elements, and of one more
pub flat_map-more : {X : Type 0} (f : X → List ℕ) (xs : List X) (i : ℕ) (d : X) → i < length xs
    → flat_map f (take (i + 1) xs) ≡ flat_map f (take i xs) ++ f (get_or xs i d)
flat_map-more f xs i d within =
    ap (λ n. flat_map f (take n xs)) (add-one i) ∙ ap (flat_map f) (take-suc xs i d within)
    ∙ flat_map-append f (take i xs) (get_or xs i d ∷ []) ∙ ap (λ bytes. flat_map f (take i xs) ++ bytes) (append-nil (f (get_or xs i d)))

-- the texts of all elements are those before one of them, that one's, and the others'
pub flat_map-at : {X : Type 0} (f : X → List ℕ) (xs : List X) (i : ℕ) (d : X) → i < length xs
    → flat_map f xs ≡ flat_map f (take i xs) ++ (f (get_or xs i d) ++ flat_map f (drop (suc i) xs))
flat_map-at f xs i d within =
    ap (flat_map f) (sym (take-append-drop i xs)) ∙ flat_map-append f (take i xs) (drop i xs)
    ∙ ap (λ rest. flat_map f (take i xs) ++ flat_map f rest) (drop-cons xs i d within)
