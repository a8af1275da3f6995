-- Sums over the slots of an equation.
use Rattle.std.proofs.Common.{◌≡◌, ℕ, zero, suc, ◌+◌, ◌*◌, ◌<◌, ◌≤◌, List, [], ◌∷◌, ◌++◌, length, map, get_or, max, refl, sym, ap, ◌∙◌, arith}
use Rattle.std.specs.List.{range_with_len}
use Rattle.std.proofs.lemmas.List.{map-append}
use Rattle.std.proofs.lemmas.List.FromFn.{map-range_with_len_more}
use Rattle.std.proofs.lemmas.List.Elements.{All-nil, All-cons, All-map}
use Rattle.fg_words.specs.declared.Word.{Word}
use Rattle.fg_words.specs.Word.{word_sum, word_xor, HasRoom}
use Rattle.fg_words.specs.Laws.{SumAppends, XorHasZero}
use Rattle.fg_shape.specs.Shape.{slots_of}
use Rattle.fg_encode.specs.Encoding.{longest, payload_at}
use Rattle.fg_encode.proofs.ListLemmas.{map-map, map_range_same}

pub slots_more : (base offset k : ℕ) → slots_of base offset (k + 1) ≡ slots_of base offset k ++ (base + k * offset) ∷ []
slots_more base offset k = map-range_with_len_more (λ j. base + j * offset) 0 k k (omega arith)

-- One slot more adds its word.
pub sum_more : SumAppends → XorHasZero → (words : ℕ → Word) (base offset k : ℕ) → ((s : ℕ) → HasRoom (words s)) →
    word_sum (map words (slots_of base offset (k + 1))) ≡ word_xor (word_sum (map words (slots_of base offset k))) (words (base + k * offset))
sum_more appends has_zero words base offset k room =
    let slot : ℕ = base + k * offset in
    ap (λ (l : List ℕ). word_sum (map words l)) (slots_more base offset k)
    ∙ ap (λ (l : List Word). word_sum l) (map-append words (slots_of base offset k) (slot ∷ []))
    ∙ appends (map words (slots_of base offset k)) (words slot ∷ []) (All-map HasRoom words (slots_of base offset k) (λ i d lt. room (get_or (slots_of base offset k) i d))) (All-cons HasRoom (words slot) [] (room slot) (All-nil HasRoom))
    ∙ ap (λ (w : Word). word_xor (word_sum (map words (slots_of base offset k))) w) (has_zero (words slot) (room slot))

-- The words at the slots are alike where two functions are.
pub slots_same : (f g : ℕ → Word) (base offset na : ℕ) → ((j : ℕ) → j < na → f (base + j * offset) ≡ g (base + j * offset)) →
    map f (slots_of base offset na) ≡ map g (slots_of base offset na)
slots_same f g base offset na same =
    map-map f (λ j. base + j * offset) (range_with_len 0 na)
    ∙ map_range_same (λ j. f (base + j * offset)) (λ j. g (base + j * offset)) 0 na (λ j low high. same j (omega arith))
    ∙ sym (map-map g (λ j. base + j * offset) (range_with_len 0 na))

-- And so is the longest payload.
longest_range_same : (ps qs : List (List ℕ)) (h : ℕ → ℕ) (a n : ℕ) → ((j : ℕ) → a ≤ j → j < a + n → payload_at ps (h j) ≡ payload_at qs (h j)) →
    longest ps (map h (range_with_len a n)) ≡ longest qs (map h (range_with_len a n))
longest_range_same ps qs h a zero same = refl
longest_range_same ps qs h a (suc n) same =
    let head : length (payload_at ps (h a)) ≡ length (payload_at qs (h a)) = ap (λ (p : List ℕ). length p) (same a (omega arith) (omega arith)) in
    let rest = longest_range_same ps qs h (a + 1) n (λ j low high. same j (omega arith) (omega arith)) in
    ap (λ (m : ℕ). max m (longest ps (map h (range_with_len (a + 1) n)))) head ∙ ap (λ (m : ℕ). max (length (payload_at qs (h a))) m) rest

pub longest_same : (ps qs : List (List ℕ)) (base offset na : ℕ) → ((j : ℕ) → j < na → payload_at ps (base + j * offset) ≡ payload_at qs (base + j * offset)) →
    longest ps (slots_of base offset na) ≡ longest qs (slots_of base offset na)
longest_same ps qs base offset na same = longest_range_same ps qs (λ j. base + j * offset) 0 na (λ j low high. same j (omega arith))

longest_range_at_most : (ps : List (List ℕ)) (size : ℕ) (h : ℕ → ℕ) (a n : ℕ) → ((s : ℕ) → length (payload_at ps s) ≤ size) → longest ps (map h (range_with_len a n)) ≤ size
longest_range_at_most ps size h a zero most = omega arith
longest_range_at_most ps size h a (suc n) most =
    let head = most (h a) in
    let rest = longest_range_at_most ps size h (a + 1) n most in
    omega arith

-- Where the first payload has the size that none exceeds, so does the longest.
pub longest_first : (ps : List (List ℕ)) (size base offset na : ℕ) → 1 ≤ na → ((s : ℕ) → length (payload_at ps s) ≤ size) → length (payload_at ps base) ≡ size →
    longest ps (slots_of base offset na) ≡ size
longest_first ps size base offset zero some most first = absurd (omega arith)
longest_first ps size base offset (suc n) some most first =
    let start : base + 0 * offset ≡ base = omega arith in
    let here : length (payload_at ps (base + 0 * offset)) ≡ size = ap (λ (s : ℕ). length (payload_at ps s)) start ∙ first in
    let rest = longest_range_at_most ps size (λ j. base + j * offset) 1 n most in
    omega arith
