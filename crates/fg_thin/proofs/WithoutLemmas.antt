-- Records without those that are lost, of lists one behind another.
use Rattle.std.proofs.Common.{◌≡◌, ℕ, suc, ◌+◌, ◌<◌, Bool, true, false, if◌then◌else◌, List, [], ◌∷◌, ◌++◌, length, take, get_or, refl, sym, ap, ◌∙◌, arith, add-zero, append-nil}
use Rattle.std.specs.List.{flat_map}
use Rattle.std.proofs.lemmas.Grind.{flat_map-append, take_at_read}
use Rattle.std.proofs.lemmas.List.{length-take-le}
use Rattle.fg_trace.specs.Trace.{Record, spelling}
use Rattle.fg_thin.specs.Thinned.{without}

kept-append : (lost : Bool) (r : Record) (all front back : List Record) → all ≡ front ++ back
    → (if lost then all else (r ∷ all)) ≡ (if lost then front else (r ∷ front)) ++ back
kept-append true r all front back e = e
kept-append false r all front back e = ap (λ t. r ∷ t) e

pub without-append : (lost : ℕ → Bool) (n : ℕ) (xs ys : List Record) → without lost n (xs ++ ys) ≡ without lost n xs ++ without lost (n + length xs) ys
without-append lost n [] ys = ap (λ m. without lost m ys) (sym (add-zero n))
without-append lost n (x ∷ xs) ys =
    let there : n + 1 + length xs ≡ n + suc (length xs) = omega arith in
    kept-append (lost n) x (without lost (n + 1) (xs ++ ys)) (without lost (n + 1) xs) (without lost (n + suc (length xs)) ys)
    (without-append lost (n + 1) xs ys ∙ ap (λ m. without lost (n + 1) xs ++ without lost m ys) there)

same_kept : (a b : Bool) (r : Record) (xs ys : List Record) → a ≡ b → xs ≡ ys → (if a then xs else (r ∷ xs)) ≡ (if b then ys else (r ∷ ys))
same_kept a b r xs ys same e = ap (λ c. if c then xs else (r ∷ xs)) same ∙ ap (λ t. if b then t else (r ∷ t)) e

-- Losses that tell the same leave the same records out.
pub without_same : (one other : ℕ → Bool) → ((n : ℕ) → one n ≡ other n) → (n : ℕ) (rs : List Record) → without one n rs ≡ without other n rs
without_same one other same n [] = refl
without_same one other same n (r ∷ rs) = same_kept (one n) (other n) r _ _ (same n) (without_same one other same (n + 1) rs)

one_kept : (b : Bool) (r : Record) → b ≡ false → (if b then [] else (r ∷ [])) ≡ r ∷ []
one_kept b r e = ap (λ c. if c then [] else (r ∷ [])) e

one_lost : (b : Bool) (r : Record) → b ≡ true → (if b then [] else (r ∷ [])) ≡ []
one_lost b r e = ap (λ c. if c then [] else (r ∷ [])) e

-- What is spelled of the first records and one more.
one_more : (lost : ℕ → Bool) (n i : ℕ) (rs : List Record) (d : Record) → i < length rs
    → flat_map spelling (without lost n (take (i + 1) rs)) ≡ flat_map spelling (without lost n (take i rs)) ++ flat_map spelling (without lost (n + i) (get_or rs i d ∷ []))
one_more lost n i rs d there =
    let r : Record = get_or rs i d in
    let front : List Record = take i rs in
    let count : length front ≡ i = length-take-le i rs (omega arith) in
    ap (λ t. flat_map spelling (without lost n t)) (take_at_read rs i d there).1
    ∙ ap (flat_map spelling) (without-append lost n front (r ∷ []))
    ∙ flat_map-append spelling (without lost n front) (without lost (n + length front) (r ∷ []))
    ∙ ap (λ m. flat_map spelling (without lost n front) ++ flat_map spelling (without lost (n + m) (r ∷ []))) count

-- One record more, which isn't lost, or is.
pub one_kept_more : (lost : ℕ → Bool) (n i : ℕ) (rs : List Record) (d : Record) → i < length rs → lost (n + i) ≡ false
    → flat_map spelling (without lost n (take (i + 1) rs)) ≡ flat_map spelling (without lost n (take i rs)) ++ spelling (get_or rs i d)
one_kept_more lost n i rs d there kept =
    let r : Record = get_or rs i d in
    one_more lost n i rs d there
    ∙ ap (λ t. flat_map spelling (without lost n (take i rs)) ++ t) (ap (flat_map spelling) (one_kept (lost (n + i)) r kept) ∙ append-nil (spelling r))

pub one_lost_more : (lost : ℕ → Bool) (n i : ℕ) (rs : List Record) (d : Record) → i < length rs → lost (n + i) ≡ true
    → flat_map spelling (without lost n (take (i + 1) rs)) ≡ flat_map spelling (without lost n (take i rs))
one_lost_more lost n i rs d there gone =
    let r : Record = get_or rs i d in
    one_more lost n i rs d there
    ∙ ap (λ t. flat_map spelling (without lost n (take i rs)) ++ t) (ap (flat_map spelling) (one_lost (lost (n + i)) r gone))
    ∙ append-nil (flat_map spelling (without lost n (take i rs)))
