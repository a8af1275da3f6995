-- Lists that are cut at the first place of an element.
use Rattle.std.proofs.Common.{Bool, true, false, ◌||◌, eqb, ◌≡◌, ◌≢◌, ℕ, suc, zero, ◌+◌, ◌<◌, ◌⊎◌, ⊎_elim, List, [], ◌∷◌, ◌++◌, length, get_or, take, drop, take-append-drop, refl, sym, ap, ◌∙◌, subst, arith, append_assoc}
use Rattle.std.specs.List.{Contains}
use Rattle.std.proofs.lemmas.Bool.{eqb-false, or_parts}
use Rattle.std.proofs.lemmas.List.{drop_more, take_more}
use Rattle.std.proofs.lemmas.List.Elements.{Contains-append_left, Contains-append_right, Contains-push, Contains-push_cases}
use Rattle.fg_check.specs.Line.{IsFirstPlace}

pub lacks_head : {A : Type 0} (e x : A) (xs : List A) → ¬ Contains (x ∷ xs) e → ¬ (x ≡ e)
lacks_head e x xs lacks same = lacks (0, omega arith, same)

pub lacks_tail : {A : Type 0} (e x : A) (xs : List A) → ¬ Contains (x ∷ xs) e → ¬ Contains xs e
lacks_tail e x xs lacks h = lacks (suc h.0, (let within = h.1 in omega arith), h.2)

pub lacks_nil : {A : Type 0} (e : A) → ¬ Contains [] e
lacks_nil e h = let none = h.1 in absurd (omega arith)

pub lacks_cons : {A : Type 0} (e x : A) (xs : List A) → ¬ (x ≡ e) → ¬ Contains xs e → ¬ Contains (x ∷ xs) e
lacks_cons e x xs head tail (zero, within, same) = head same
lacks_cons e x xs head tail (suc k, within, same) = tail (k, omega arith, same)

pub lacks_append : {A : Type 0} (e : A) (xs ys : List A) → ¬ Contains xs e → ¬ Contains ys e → ¬ Contains (xs ++ ys) e
lacks_append e [] ys front rest = rest
lacks_append e (x ∷ xs) ys front rest =
    lacks_cons e x (xs ++ ys) (lacks_head e x xs front) (lacks_append e xs ys (lacks_tail e x xs front) rest)

-- a list is cut in one way at the first place of an element
pub one_cut : {A : Type 0} (e : A) (xs ys after rest : List A) → ¬ Contains xs e → ¬ Contains ys e → xs ++ e ∷ after ≡ ys ++ e ∷ rest → (xs ≡ ys) × (after ≡ rest)
one_cut e [] [] after rest front other same = (refl, (cc))
one_cut e [] (y ∷ ys) after rest front other same = let first : y ≡ e = cc in absurd (lacks_head e y ys other first)
one_cut e (x ∷ xs) [] after rest front other same = let first : x ≡ e = cc in absurd (lacks_head e x xs front first)
one_cut e (x ∷ xs) (y ∷ ys) after rest front other same =
    let first : x ≡ y = cc in
    let tails : xs ++ e ∷ after ≡ ys ++ e ∷ rest = cc in
    let both = one_cut e xs ys after rest (lacks_tail e x xs front) (lacks_tail e y ys other) tails in
    let fronts = both.0 in
    ((cc), both.1)

-- one more element is another
pub lacks_more : (text : List ℕ) (i byte : ℕ) → i < length text → ¬ Contains (take i text) byte → ¬ (get_or text i 0 ≡ byte) → ¬ Contains (take (i + 1) text) byte
lacks_more text i byte within lacks other h =
    let more : Contains (take i text ++ get_or text i 0 ∷ []) byte = subst (λ (t : List ℕ). Contains t byte) (take_more text i 0 within) h in
    ⊎_elim lacks other (Contains-push_cases (take i text) (get_or text i 0) byte more)

-- a text is cut at the first place of a byte
pub cut_there : (byte : ℕ) (text : List ℕ) (place : ℕ) → IsFirstPlace byte text place → text ≡ take place text ++ byte ∷ drop (place + 1) text
cut_there byte text place h =
    sym (take-append-drop place text)
    ∙ ap (λ (t : List ℕ). take place text ++ t) (drop_more text place 0 h.within ∙ ap (λ (b : ℕ). b ∷ drop (place + 1) text) h.here)

-- and in no other way
pub cut_alone : (byte : ℕ) (text front rest : List ℕ) (place : ℕ) → IsFirstPlace byte text place → ¬ Contains front byte → text ≡ front ++ byte ∷ rest
    → (take place text ≡ front) × (drop (place + 1) text ≡ rest)
cut_alone byte text front rest place h lacks same =
    one_cut byte (take place text) front (drop (place + 1) text) rest h.first lacks (sym (cut_there byte text place h) ∙ same)

pub in_middle : {A : Type 0} (e : A) (front rest : List A) → Contains (front ++ e ∷ rest) e
in_middle e front rest =
    subst (λ l. Contains l e) (append_assoc front (e ∷ []) rest) (Contains-append_left (front ++ e ∷ []) rest e (Contains-push front e))

-- by a test
abbrev pub has : ℕ → List ℕ → Bool
has e [] = false
has e (x ∷ xs) = eqb x e || has e xs

pub lacks_by : (e : ℕ) (xs : List ℕ) → has e xs ≡ false → ¬ Contains xs e
lacks_by e [] none = lacks_nil e
lacks_by e (x ∷ xs) none =
    let parts = or_parts (eqb x e) (has e xs) none in lacks_cons e x xs (eqb-false x e parts.0) (lacks_by e xs parts.1)

pub lacks_front : {A : Type 0} (e : A) (front rest : List A) → ¬ Contains (front ++ rest) e → ¬ Contains front e
lacks_front e front rest lacks h = lacks (Contains-append_left front rest e h)

pub lacks_rest : {A : Type 0} (e : A) (front rest : List A) → ¬ Contains (front ++ rest) e → ¬ Contains rest e
lacks_rest e front rest lacks h = lacks (Contains-append_right front rest e h)

pub lacks_take : {A : Type 0} (e : A) (n : ℕ) (xs : List A) → ¬ Contains xs e → ¬ Contains (take n xs) e
lacks_take e n xs lacks = lacks_front e (take n xs) (drop n xs) (subst (λ l. ¬ Contains l e) (sym (take-append-drop n xs)) lacks)
