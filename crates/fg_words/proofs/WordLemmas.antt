-- The laws of the XOR of words and of their sum.
use Rattle.std.proofs.Common.{◌≡◌, ℕ, zero, suc, ◌+◌, ◌*◌, ◌<◌, ◌≤◌, slice_index, List, [], ◌∷◌, ◌++◌, length, replicate, take, drop, get_or, bit_xor, All, set, swap, refl, sym, ap, ⊎_elim, ◌∙◌, arith}
use Rattle.std.specs.List.{AllByRecursion}
use Rattle.std.specs.Int.Bits.{xor_assoc, xor_self, xor_zero_r}
use Rattle.std.specs.Simd.Lanes.{zip2}
use Rattle.std.proofs.lemmas.Nat.{xor_comm}
use Rattle.std.proofs.lemmas.Simd.{length-zip2, length-replicate}
use Rattle.std.proofs.lemmas.List.Elements.{All-get_or, All-set, recursion_from_All}
use Rattle.std.proofs.lemmas.List.Sorted.{IsPermutation-keeps}
use Rattle.std.proofs.lemmas.List.{get_or-set_same, get_or-set_other, length-set}
use Rattle.std.specs.List.Sorted.{IsPermutation}
use Rattle.std.proofs.lemmas.Grind.{common_steps}
use Rattle.std.proofs.lemmas.Bool.{cases_eq}
use Rattle.fg_words.specs.declared.Word.{Word}
use Rattle.fg_words.specs.Word.{zero_word, word_xor, word_sum, HasRoom, IsMedia}

-- Words with equal fields are equal.
pub word-ext : (a b : Word) → a.pt ≡ b.pt → a.ts ≡ b.ts → a.len ≡ b.len → a.bytes ≡ b.bytes → a ≡ b
word-ext a b p t l y =
    ap (λ (x : ℕ). (let w : Word = record { pt = x; ts = a.ts; len = a.len; bytes = a.bytes } in w)) p
    ∙ ap (λ (x : ℕ). (let w : Word = record { pt = b.pt; ts = x; len = a.len; bytes = a.bytes } in w)) t
    ∙ ap (λ (x : ℕ). (let w : Word = record { pt = b.pt; ts = b.ts; len = x; bytes = a.bytes } in w)) l
    ∙ ap (λ (x : List ℕ). (let w : Word = record { pt = b.pt; ts = b.ts; len = b.len; bytes = x } in w)) y

-- Byte by byte.
zip-comm : (xs ys : List ℕ) → zip2 bit_xor xs ys ≡ zip2 bit_xor ys xs
zip-comm [] [] = refl
zip-comm [] (y ∷ ys) = refl
zip-comm (x ∷ xs) [] = refl
zip-comm (x ∷ xs) (y ∷ ys) = let e = xor_comm x y in let h = zip-comm xs ys in cc

zip-assoc : (xs ys zs : List ℕ) → zip2 bit_xor (zip2 bit_xor xs ys) zs ≡ zip2 bit_xor xs (zip2 bit_xor ys zs)
zip-assoc [] ys zs = refl
zip-assoc (x ∷ xs) [] zs = refl
zip-assoc (x ∷ xs) (y ∷ ys) [] = refl
zip-assoc (x ∷ xs) (y ∷ ys) (z ∷ zs) = let e = xor_assoc x y z in let h = zip-assoc xs ys zs in cc

zip-self : (n : ℕ) (xs : List ℕ) → length xs ≡ n → zip2 bit_xor xs xs ≡ replicate n 0
zip-self zero [] h = refl
zip-self zero (x ∷ xs) h = absurd (omega arith)
zip-self (suc n) [] h = absurd (omega arith)
zip-self (suc n) (x ∷ xs) h = let e = xor_self x in let r = zip-self n xs (omega arith) in cc

zip-zero : (n : ℕ) (xs : List ℕ) → length xs ≡ n → zip2 bit_xor xs (replicate n 0) ≡ xs
zip-zero zero [] h = refl
zip-zero zero (x ∷ xs) h = absurd (omega arith)
zip-zero (suc n) [] h = absurd (omega arith)
zip-zero (suc n) (x ∷ xs) h = let e = xor_zero_r x in let r = zip-zero n xs (omega arith) in cc

-- The XOR doesn't depend on the order of its words.
pub word_xor_comm : (a b : Word) → word_xor a b ≡ word_xor b a
word_xor_comm a b = word-ext (word_xor a b) (word_xor b a) (xor_comm a.pt b.pt) (xor_comm a.ts b.ts) (xor_comm a.len b.len) (zip-comm a.bytes b.bytes)

pub word_xor_assoc : (a b c : Word) → word_xor (word_xor a b) c ≡ word_xor a (word_xor b c)
word_xor_assoc a b c = word-ext (word_xor (word_xor a b) c) (word_xor a (word_xor b c)) (xor_assoc a.pt b.pt c.pt) (xor_assoc a.ts b.ts c.ts) (xor_assoc a.len b.len c.len) (zip-assoc a.bytes b.bytes c.bytes)

-- A word is its own inverse, and the zero word changes nothing.
pub word_xor-self : (a : Word) → HasRoom a → word_xor a a ≡ zero_word
word_xor-self a room = word-ext (word_xor a a) zero_word (xor_self a.pt) (xor_self a.ts) (xor_self a.len) (zip-self 1316 a.bytes room)

pub word_xor-zero : (a : Word) → HasRoom a → word_xor a zero_word ≡ a
word_xor-zero a room = word-ext (word_xor a zero_word) a (xor_zero_r a.pt) (xor_zero_r a.ts) (xor_zero_r a.len) (zip-zero 1316 a.bytes room)

pub word_xor-zero_left : (a : Word) → HasRoom a → word_xor zero_word a ≡ a
word_xor-zero_left a room = word_xor_comm zero_word a ∙ word_xor-zero a room

-- A swap of the first two of three.
pub word_xor-swap : (a b c : Word) → word_xor a (word_xor b c) ≡ word_xor b (word_xor a c)
word_xor-swap a b c = sym (word_xor_assoc a b c) ∙ ap (λ (w : Word). word_xor w c) (word_xor_comm a b) ∙ word_xor_assoc b a c

pub HasRoom-zero : HasRoom zero_word
HasRoom-zero = length-replicate {A = ℕ} 1316 0

pub HasRoom-xor : (a b : Word) → HasRoom a → HasRoom b → HasRoom (word_xor a b)
HasRoom-xor a b p q = length-zip2 bit_xor a.bytes b.bytes (p ∙ sym q) ∙ p

-- A word that is added twice vanishes, and an equal summand cancels.
pub word_xor-twice : (a b : Word) → HasRoom a → HasRoom b → word_xor a (word_xor a b) ≡ b
word_xor-twice a b p q = sym (word_xor_assoc a a b) ∙ ap (λ (w : Word). word_xor w b) (word_xor-self a p) ∙ word_xor-zero_left b q

pub word_xor-cancel : (a b c : Word) → HasRoom a → HasRoom b → HasRoom c → word_xor a b ≡ word_xor a c → b ≡ c
word_xor-cancel a b c p q r e = sym (word_xor-twice a b p q) ∙ ap (λ (w : Word). word_xor a w) e ∙ word_xor-twice a c p r

-- What is missing in a sum is the XOR of the sum with the rest.
pub word_xor-solve : (a b c : Word) → HasRoom a → HasRoom b → word_xor a b ≡ c → b ≡ word_xor a c
word_xor-solve a b c p q e = sym (word_xor-twice a b p q) ∙ ap (λ (w : Word). word_xor a w) e

pub word_xor-zero_same : (a b : Word) → HasRoom a → HasRoom b → word_xor a b ≡ zero_word → a ≡ b
word_xor-zero_same a b p q e = sym (word_xor-solve a b zero_word p q e ∙ word_xor-zero a p)

-- The sum.
pub HasRoom-sum_recursion : (ws : List Word) → AllByRecursion HasRoom ws → HasRoom (word_sum ws)
HasRoom-sum_recursion [] h = HasRoom-zero
HasRoom-sum_recursion (w ∷ ws) h = HasRoom-xor w (word_sum ws) h.0 (HasRoom-sum_recursion ws h.1)

pub HasRoom-sum : (ws : List Word) → All HasRoom ws → HasRoom (word_sum ws)
HasRoom-sum ws h = HasRoom-sum_recursion ws (recursion_from_All HasRoom ws h)

pub word_sum-one : (w : Word) → HasRoom w → word_sum (w ∷ []) ≡ w
word_sum-one w room = word_xor-zero w room

pub word_sum-append : (us ws : List Word) → All HasRoom ws → word_sum (us ++ ws) ≡ word_xor (word_sum us) (word_sum ws)
word_sum-append [] ws h = sym (word_xor-zero_left (word_sum ws) (HasRoom-sum ws h))
word_sum-append (u ∷ us) ws h = ap (λ (w : Word). word_xor u w) (word_sum-append us ws h) ∙ sym (word_xor_assoc u (word_sum us) (word_sum ws))

split_at : (ws : List Word) (i : ℕ) (d : Word) → i < length ws → take i ws ++ get_or ws i d ∷ drop (i + 1) ws ≡ ws
split_at ws i d lt = grind (arith, common_steps)

-- One word taken out of the middle.
pub word_sum-middle : (us : List Word) (w : Word) (ws : List Word) → word_sum (us ++ w ∷ ws) ≡ word_xor w (word_sum (us ++ ws))
word_sum-middle [] w ws = refl
word_sum-middle (u ∷ us) w ws = ap (λ (v : Word). word_xor u v) (word_sum-middle us w ws) ∙ word_xor-swap u w (word_sum (us ++ ws))

-- The one word that a sum lacks is the XOR of the sum and the others.
pub word_sum-missing : (us : List Word) (w : Word) (ws : List Word) (p : Word) → HasRoom w → All HasRoom (us ++ ws) → word_sum (us ++ w ∷ ws) ≡ p → w ≡ word_xor p (word_sum (us ++ ws))
word_sum-missing us w ws p room rooms is =
    let others : Word = word_sum (us ++ ws) in
    let sums : word_xor others w ≡ p = word_xor_comm others w ∙ sym (word_sum-middle us w ws) ∙ is in
    word_xor-solve others w p (HasRoom-sum (us ++ ws) rooms) room sums ∙ word_xor_comm others p

-- The word at a place taken out.
pub word_sum-take_drop : (ws : List Word) (i : ℕ) (d : Word) → i < length ws → word_sum ws ≡ word_xor (get_or ws i d) (word_sum (take i ws ++ drop (i + 1) ws))
word_sum-take_drop ws i d lt = ap word_sum (sym (split_at ws i d lt)) ∙ word_sum-middle (take i ws) (get_or ws i d) (drop (i + 1) ws)

-- The word at a place exchanged for another.
pub word_sum-set : (ws : List Word) (i : ℕ) (v d : Word) → i < length ws → word_xor (get_or ws i d) (word_sum (set ws i v)) ≡ word_xor v (word_sum ws)
word_sum-set [] i v d lt = absurd (omega arith)
word_sum-set (w ∷ ws) zero v d lt = word_xor-swap w v (word_sum ws)
word_sum-set (w ∷ ws) (suc i) v d lt =
    word_xor-swap (get_or ws i d) w (word_sum (set ws i v))
    ∙ ap (λ (u : Word). word_xor w u) (word_sum-set ws i v d (omega arith))
    ∙ word_xor-swap w v (word_sum ws)

-- An exchange of two words.
kept : (ws l : List Word) (i j : ℕ) → i < length l → j < length l → All HasRoom l × (word_sum l ≡ word_sum ws) → All HasRoom (swap l i j) × (word_sum (swap l i j) ≡ word_sum ws)
kept ws [] i j p q h = h
kept ws (d ∷ ds) i j p q h =
    let l : List Word = d ∷ ds in
    let a : Word = get_or l i d in
    let b : Word = get_or l j d in
    let l1 : List Word = set l i b in
    let l2 : List Word = set l1 j a in
    let long : length l1 ≡ length l = length-set l i b in
    let there : get_or l1 j d ≡ b = ⊎_elim (λ e. ap (λ n. get_or l1 n d) e ∙ get_or-set_same l i b d p) (λ n. get_or-set_other l i j b d n) (cases_eq j i) in
    let inside : j < length l1 = omega arith in
    let room_a : HasRoom a = All-get_or HasRoom l i d p h.0 in
    let room_b : HasRoom b = All-get_or HasRoom l j d q h.0 in
    let rooms1 : All HasRoom l1 = All-set HasRoom l i b room_b h.0 in
    let rooms2 : All HasRoom l2 = All-set HasRoom l1 j a room_a rooms1 in
    let first : word_xor a (word_sum l1) ≡ word_xor b (word_sum l) = word_sum-set l i b d p in
    let second : word_xor (get_or l1 j d) (word_sum l2) ≡ word_xor a (word_sum l1) = word_sum-set l1 j a d inside in
    let both : word_xor b (word_sum l2) ≡ word_xor b (word_sum l) = ap (λ (w : Word). word_xor w (word_sum l2)) (sym there) ∙ second ∙ first in
    let same : word_sum l2 ≡ word_sum l = word_xor-cancel b (word_sum l2) (word_sum l) room_b (HasRoom-sum l2 rooms2) (HasRoom-sum l h.0) both in
    (rooms2, same ∙ h.1)

-- The sum doesn't depend on the order of the words.
pub word_sum-permutation : (ws us : List Word) → All HasRoom ws → IsPermutation ws us → word_sum us ≡ word_sum ws
word_sum-permutation ws us room moved = (IsPermutation-keeps ws (λ (l : List Word). All HasRoom l × (word_sum l ≡ word_sum ws)) (room, refl) (kept ws) us moved).1

-- A word of whole transport packets is a media word where each of them begins with the sync byte and zeros follow.
pub media_of_packets :
    (w : Word) (packets : ℕ) → w.pt ≡ 33 → 1 ≤ packets → packets ≤ 7 → w.len ≡ 188 * packets → HasRoom w
    → ((i : ℕ) → i < packets → slice_index w.bytes (188 * i) ≡ 0x47) → ((i : ℕ) → w.len ≤ i → slice_index w.bytes i ≡ 0)
    → IsMedia w
media_of_packets w packets transport some few whole room synced padded = record {
  transport = transport;
  packets = (packets, some, few, whole);
  room = room;
  synced = λ i less. synced i (omega (arith, less, whole));
  padded = padded;
}
