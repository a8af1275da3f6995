-- Lists made over a range: what a filter leaves of them, and when two are the same.
use Rattle.std.proofs.Common.{◌≡◌, ◌≢◌, ◌⊎◌, ℕ, zero, suc, ◌+◌, ◌<◌, ◌≤◌, Bool, true, false, cond, List, [], ◌∷◌, ◌++◌, map, refl, sym, ap, subst, inl, inr, ⊎_elim, ◌∙◌, arith, add-one, add-zero, zero-add}
use Rattle.std.specs.List.{filter, flat_map, range_with_len}
use Rattle.std.proofs.lemmas.Bool.{cases_lt}
use Rattle.std.proofs.lemmas.List.{append-nil, map-append}
use Rattle.std.proofs.lemmas.List.Concat.{flat_map-append}
use Rattle.std.proofs.lemmas.List.Elements.{filter-append}
use Rattle.std.proofs.lemmas.List.FromFn.{filter_of_map_range_with_len_more}

pub bool_cases : (b : Bool) → (b ≡ true) ⊎ (b ≡ false)
bool_cases true = inl refl
bool_cases false = inr refl

-- A range ends with its last number.
pub range_more : (a n : ℕ) → range_with_len a (suc n) ≡ range_with_len a n ++ (a + n) ∷ []
range_more a zero = ap (λ (x : ℕ). x ∷ []) (sym (add-zero a))
range_more a (suc n) =
    let step : (a + 1) + n ≡ a + suc n = omega arith in
    ap (λ (l : List ℕ). a ∷ l) (range_more (a + 1) n ∙ ap (λ (x : ℕ). range_with_len (a + 1) n ++ x ∷ []) step)

pub flat_more : {X : Type 0} (g : ℕ → List X) (n : ℕ) → flat_map g (range_with_len 0 (suc n)) ≡ flat_map g (range_with_len 0 n) ++ g n
flat_more {X} g n =
    ap (λ (l : List ℕ). flat_map g l) (range_more 0 n)
    ∙ flat_map-append g (range_with_len 0 n) ((0 + n) ∷ [])
    ∙ ap (λ (l : List X). flat_map g (range_with_len 0 n) ++ l) (append-nil (g (0 + n)))
    ∙ ap (λ (m : ℕ). flat_map g (range_with_len 0 n) ++ g m) (zero-add n)

pub flat_more_at : {X : Type 0} (g : ℕ → List X) (n : ℕ) → flat_map g (range_with_len 0 (n + 1)) ≡ flat_map g (range_with_len 0 n) ++ g n
flat_more_at g n = ap (λ (m : ℕ). flat_map g (range_with_len 0 m)) (add-one n) ∙ flat_more g n

-- None passes.
pub filter_none : (p : ℕ → Bool) (f : ℕ → ℕ) (n : ℕ) → ((j : ℕ) → j < n → p (f j) ≡ true → ⊥) → filter p (map f (range_with_len 0 n)) ≡ []
filter_none p f zero none = refl
filter_none p f (suc n) none =
    let before = filter_none p f n (λ j lt. none j (omega arith)) in
    let last : p (f n) ≡ false = ⊎_elim (λ (t : p (f n) ≡ true). absurd (none n (omega arith) t)) (λ (e : p (f n) ≡ false). e) (bool_cases (p (f n))) in
    subst (λ (m : ℕ). filter p (map f (range_with_len 0 m)) ≡ []) (add-one n)
    (filter_of_map_range_with_len_more p f 0 n n (omega arith)
    ∙ ap (λ (l : List ℕ). l ++ cond (p (f n)) (f n ∷ []) []) before
    ∙ ap (λ (b : Bool). cond b (f n ∷ []) []) last)

-- One passes.
pub filter_single : (p : ℕ → Bool) (f : ℕ → ℕ) (n i : ℕ) → i < n → p (f i) ≡ true → ((j : ℕ) → j < n → p (f j) ≡ true → j ≡ i) →
    filter p (map f (range_with_len 0 n)) ≡ f i ∷ []
filter_single p f zero i lt passes one = absurd (omega arith)
filter_single p f (suc n) i lt passes one =
    subst (λ (m : ℕ). filter p (map f (range_with_len 0 m)) ≡ f i ∷ []) (add-one n)
    (filter_of_map_range_with_len_more p f 0 n n (omega arith)
    ∙ ⊎_elim
    (λ (early : i < n).
    let before = filter_single p f n i early passes (λ j below t. one j (omega arith) t) in
    let last : p (f n) ≡ false = ⊎_elim (λ (t : p (f n) ≡ true). absurd (let same = one n (omega arith) t in omega arith)) (λ (e : p (f n) ≡ false). e) (bool_cases (p (f n))) in
    ap (λ (l : List ℕ). l ++ cond (p (f n)) (f n ∷ []) []) before
    ∙ ap (λ (b : Bool). (f i ∷ []) ++ cond b (f n ∷ []) []) last)
    (λ (late : n ≤ i).
    let same : i ≡ n = omega arith in
    let before = filter_none p f n (λ j below t. let other = one j (omega arith) t in omega arith) in
    ap (λ (l : List ℕ). l ++ cond (p (f n)) (f n ∷ []) []) before
    ∙ ap (λ (m : ℕ). cond (p (f m)) (f m ∷ []) []) (sym same)
    ∙ ap (λ (b : Bool). cond b (f i ∷ []) []) passes)
    (cases_lt i n))

pub flat_none : (g : ℕ → List ℕ) (n : ℕ) → ((m : ℕ) → m < n → g m ≡ []) → flat_map g (range_with_len 0 n) ≡ []
flat_none g zero none = refl
flat_none g (suc n) none =
    flat_more g n ∙ ap (λ (l : List ℕ). l ++ g n) (flat_none g n (λ m lt. none m (omega arith))) ∙ none n (omega arith)

pub flat_single : (g : ℕ → List ℕ) (n i : ℕ) (xs : List ℕ) → i < n → g i ≡ xs → ((m : ℕ) → m < n → m ≢ i → g m ≡ []) → flat_map g (range_with_len 0 n) ≡ xs
flat_single g zero i xs lt here none = absurd (omega arith)
flat_single g (suc n) i xs lt here none =
    flat_more g n
    ∙ ⊎_elim
    (λ (early : i < n).
    let ne : n ≢ i = omega arith in
    ap (λ (l : List ℕ). l ++ g n) (flat_single g n i xs early here (λ m below other. none m (omega arith) other))
    ∙ ap (λ (l : List ℕ). xs ++ l) (none n (omega arith) ne) ∙ append-nil xs)
    (λ (late : n ≤ i).
    let same : i ≡ n = omega arith in
    ap (λ (l : List ℕ). l ++ g n) (flat_none g n (λ m below. none m (omega arith) (omega arith)))
    ∙ ap (λ (m : ℕ). g m) (sym same) ∙ here)
    (cases_lt i n)

pub filter-flat_map : (p : ℕ → Bool) (h : ℕ → List ℕ) (xs : List ℕ) → filter p (flat_map h xs) ≡ flat_map (λ m. filter p (h m)) xs
filter-flat_map p h [] = refl
filter-flat_map p h (x ∷ xs) = filter-append p (h x) (flat_map h xs) ∙ ap (λ (l : List ℕ). filter p (h x) ++ l) (filter-flat_map p h xs)

-- Two functions that are alike on a range.
pub map_range_same : {X : Type 0} (f g : ℕ → X) (a n : ℕ) → ((j : ℕ) → a ≤ j → j < a + n → f j ≡ g j) → map f (range_with_len a n) ≡ map g (range_with_len a n)
map_range_same f g a zero same = refl
map_range_same f g a (suc n) same =
    let head = same a (omega arith) (omega arith) in
    let rest = map_range_same f g (a + 1) n (λ j low high. same j (omega arith) (omega arith)) in
    cc

pub flat_range_same : {X : Type 0} (f g : ℕ → List X) (a n : ℕ) → ((j : ℕ) → a ≤ j → j < a + n → f j ≡ g j) → flat_map f (range_with_len a n) ≡ flat_map g (range_with_len a n)
flat_range_same f g a zero same = refl
flat_range_same f g a (suc n) same =
    let head = same a (omega arith) (omega arith) in
    let rest = flat_range_same f g (a + 1) n (λ j low high. same j (omega arith) (omega arith)) in
    cc

kept_same : {X : Type 0} (f g : ℕ → X) (b : Bool) (x : ℕ) (xs : List ℕ) → (b ≡ true → f x ≡ g x) → map f xs ≡ map g xs → map f (cond b (x ∷ xs) xs) ≡ map g (cond b (x ∷ xs) xs)
kept_same f g true x xs same rest = let head = same refl in cc
kept_same f g false x xs same rest = rest

-- Two functions that are alike wherever the test passes.
pub map_filter_same : {X : Type 0} (f g : ℕ → X) (p : ℕ → Bool) (xs : List ℕ) → ((x : ℕ) → p x ≡ true → f x ≡ g x) → map f (filter p xs) ≡ map g (filter p xs)
map_filter_same f g p [] same = refl
map_filter_same f g p (x ∷ xs) same = kept_same f g (p x) x (filter p xs) (same x) (map_filter_same f g p xs same)

pub map-map : {X : Type 0} (f : ℕ → X) (h : ℕ → ℕ) (xs : List ℕ) → map f (map h xs) ≡ map (λ j. f (h j)) xs
map-map f h [] = refl
map-map f h (x ∷ xs) = let rest = map-map f h xs in cc

pub map_filter_range_same : {X : Type 0} (f g : ℕ → X) (p : ℕ → Bool) (h : ℕ → ℕ) (a n : ℕ) → ((j : ℕ) → a ≤ j → j < a + n → p (h j) ≡ true → f (h j) ≡ g (h j)) →
    map f (filter p (map h (range_with_len a n))) ≡ map g (filter p (map h (range_with_len a n)))
map_filter_range_same f g p h a zero same = refl
map_filter_range_same f g p h a (suc n) same =
    kept_same f g (p (h a)) (h a) (filter p (map h (range_with_len (a + 1) n))) (same a (omega arith) (omega arith))
    (map_filter_range_same f g p h (a + 1) n (λ j low high. same j (omega arith) (omega arith)))

pub map_flat_same : {X : Type 0} (f g : ℕ → X) (k : ℕ → List ℕ) (xs : List ℕ) → ((m : ℕ) → map f (k m) ≡ map g (k m)) → map f (flat_map k xs) ≡ map g (flat_map k xs)
map_flat_same f g k [] same = refl
map_flat_same {X} f g k (x ∷ xs) same =
    map-append f (k x) (flat_map k xs)
    ∙ ap (λ (l : List X). l ++ map f (flat_map k xs)) (same x)
    ∙ ap (λ (l : List X). map g (k x) ++ l) (map_flat_same f g k xs same)
    ∙ sym (map-append g (k x) (flat_map k xs))
