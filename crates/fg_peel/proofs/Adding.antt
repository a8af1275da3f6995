-- Sums of words one word after another, where no word is longer than the room for it.
use Rattle.std.proofs.Common.{◌≡◌, ℕ, zero, suc, ◌+◌, ◌<◌, ◌≤◌, List, [], ◌∷◌, length, replicate, drop, get_or, bit_xor, Option, Some, None, refl, sym, ap, ⊎_elim, ◌∙◌, arith}
use Rattle.std.specs.Int.Bits.{xor_zero_r}
use Rattle.std.specs.Simd.Lanes.{zip2}
use Rattle.std.specs.List.{filter_map, cons_option}
use Rattle.std.proofs.lemmas.List.{drop_more, drop_all}
use Rattle.std.proofs.lemmas.Bool.{cases_lt}
use Rattle.fg_words.specs.declared.Word.{Word}
use Rattle.fg_words.specs.Word.{zero_word, word_xor, word_sum, HasRoom}
use Rattle.fg_words.proofs.WordLemmas.{word-ext, word_xor_assoc, word_xor-self, word_xor-zero_same, HasRoom-zero}
use Rattle.fg_peel.specs.Equation.{sum_at}
use Rattle.fg_peel.specs.Recovery.{with_added}

-- The word has no more bytes than fit.
abbrev pub IsShort : Word → Type 0
IsShort w = length w.bytes ≤ 1316

zip_left : (xs ys : List ℕ) → length (zip2 bit_xor xs ys) ≤ length xs
zip_left [] ys = omega arith
zip_left (x ∷ xs) [] = omega arith
zip_left (x ∷ xs) (y ∷ ys) = let h = zip_left xs ys in omega arith

zip_right : (xs ys : List ℕ) → length (zip2 bit_xor xs ys) ≤ length ys
zip_right [] ys = omega arith
zip_right (x ∷ xs) [] = omega arith
zip_right (x ∷ xs) (y ∷ ys) = let h = zip_right xs ys in omega arith

zip_zero : (n : ℕ) (xs : List ℕ) → length xs ≤ n → zip2 bit_xor xs (replicate n 0) ≡ xs
zip_zero n [] h = refl
zip_zero zero (x ∷ xs) h = absurd (omega arith)
zip_zero (suc n) (x ∷ xs) h = let e = xor_zero_r x in let r = zip_zero n xs (omega arith) in cc

pub xor_zero_short : (a : Word) → IsShort a → word_xor a zero_word ≡ a
xor_zero_short a short = word-ext (word_xor a zero_word) a (xor_zero_r a.pt) (xor_zero_r a.ts) (xor_zero_r a.len) (zip_zero 1316 a.bytes short)

pub short_xor : (a b : Word) → IsShort a → IsShort (word_xor a b)
short_xor a b short = omega (arith, zip_left a.bytes b.bytes)

pub short_room : (a : Word) → HasRoom a → IsShort a
short_room a room = omega (arith, room)

pub short_sum : (ws : List Word) → IsShort (word_sum ws)
short_sum [] = short_room zero_word HasRoom-zero
short_sum (w ∷ ws) = omega (arith, zip_right w.bytes (word_sum ws).bytes, short_sum ws)

-- A word and a sum cancel exactly where they are equal.
pub cancels : (a b : Word) → HasRoom a → IsShort b → word_xor a b ≡ zero_word → a ≡ b
cancels a b room short zeros =
    let size : length (zip2 bit_xor a.bytes b.bytes) ≡ 1316 = ap (λ (w : Word). length w.bytes) zeros ∙ HasRoom-zero in
    let whole : HasRoom b = omega (arith, zip_right a.bytes b.bytes, size, short) in
    word_xor-zero_same a b room whole zeros

pub cancelled : (a b : Word) → HasRoom a → a ≡ b → word_xor a b ≡ zero_word
cancelled a b room same = ap (word_xor a) (sym same) ∙ word_xor-self a room

-- One more position of a list whose words are summed.
pub sum_more :
    (words : ℕ → Option Word) (x : ℕ) (rest : List ℕ) (w acc : Word) → words x ≡ Some w
    → word_xor (word_xor acc w) (sum_at words rest) ≡ word_xor acc (sum_at words (x ∷ rest))
sum_more words x rest w acc is = rw is (word_xor_assoc acc w (sum_at words rest))

module _ (words : ℕ → Option Word) (xs : List ℕ) (j : ℕ) (acc total : Word) where
  -- one more slot that has a word
  pub adding_more :
      (w : Word) → j < length xs → words (get_or xs j 0) ≡ Some w → word_xor acc (sum_at words (drop j xs)) ≡ total
      → word_xor (word_xor acc w) (sum_at words (drop (j + 1) xs)) ≡ total
  adding_more w within is so_far =
      let cut = drop_more xs j 0 within in
      sum_more words (get_or xs j 0) (drop (j + 1) xs) w acc is ∙ (rw cut at so_far)

  -- one that has none
  pub adding_none :
      j < length xs → words (get_or xs j 0) ≡ None → word_xor acc (sum_at words (drop j xs)) ≡ total
      → word_xor acc (sum_at words (drop (j + 1) xs)) ≡ total
  adding_none within is so_far =
      let cut = drop_more xs j 0 within in
      let same : sum_at words (drop (j + 1) xs) ≡ sum_at words (get_or xs j 0 ∷ drop (j + 1) xs) =
      sym (ap (λ (o : Option Word). word_sum (cons_option o (filter_map words (drop (j + 1) xs)))) is) in
      ap (word_xor acc) same ∙ (rw cut at so_far)

  -- all slots are done
  pub adding_done : length xs ≤ j → IsShort acc → word_xor acc (sum_at words (drop j xs)) ≡ total → acc ≡ total
  adding_done past short so_far =
      let none = drop_all j xs past in
      sym (xor_zero_short acc short) ∙ (rw none at so_far)

  -- one more slot, or none where all are done
  pub adding_one :
      (added : Option Word) → (j < length xs → added ≡ words (get_or xs j 0)) → (length xs ≤ j → added ≡ None)
      → word_xor acc (sum_at words (drop j xs)) ≡ total
      → word_xor (with_added acc added) (sum_at words (drop (j + 1) xs)) ≡ total
  adding_one added within past so_far = ⊎_elim (λ less. here less added (within less)) (λ more. done more) (cases_lt j (length xs))
    where
      here : j < length xs → (o : Option Word) → o ≡ words (get_or xs j 0)
          → word_xor (with_added acc o) (sum_at words (drop (j + 1) xs)) ≡ total
      here less None is = adding_none less (sym is) so_far
      here less (Some w) is = adding_more w less (sym is) so_far

      done : length xs ≤ j → word_xor (with_added acc added) (sum_at words (drop (j + 1) xs)) ≡ total
      done more =
          ap (λ (o : Option Word). word_xor (with_added acc o) (sum_at words (drop (j + 1) xs))) (past more)
          ∙ ap (λ (l : List ℕ). word_xor acc (sum_at words l)) (drop_all (j + 1) xs (omega (arith, more)) ∙ sym (drop_all j xs more))
          ∙ so_far

  pub adding_next :
      (next : ℕ) → next ≡ j + 1 → (added : Option Word) → (j < length xs → added ≡ words (get_or xs j 0))
      → (length xs ≤ j → added ≡ None) → word_xor acc (sum_at words (drop j xs)) ≡ total
      → word_xor (with_added acc added) (sum_at words (drop next xs)) ≡ total
  adding_next next is added within past so_far =
      ap (λ (k : ℕ). word_xor (with_added acc added) (sum_at words (drop k xs))) is ∙ adding_one added within past so_far

pub short_added : (a : Word) (added : Option Word) → IsShort a → IsShort (with_added a added)
short_added a None short = short
short_added a (Some b) short = short_xor a b short

-- Two words at once, one of them, and none.
pub added_both : (sum : Word) (one other : Option Word) (a b : Word) → one ≡ Some a → other ≡ Some b
    → word_xor sum (word_xor a b) ≡ with_added (with_added sum one) other
added_both sum one other a b is is' =
    sym (word_xor_assoc sum a b) ∙ (λ i. with_added (with_added sum (sym is i)) (sym is' i))

pub added_all : (sum : Word) (first second third fourth : Option Word) (a b c d : Word)
    → first ≡ Some a → second ≡ Some b → third ≡ Some c → fourth ≡ Some d
    → word_xor sum (word_xor (word_xor a b) (word_xor c d))
    ≡ with_added (with_added (with_added (with_added sum first) second) third) fourth
added_all sum first second third fourth a b c d is is' is'' is''' =
    sym (word_xor_assoc sum (word_xor a b) (word_xor c d))
    ∙ ap (λ (w : Word). word_xor w (word_xor c d)) (added_both sum first second a b is is')
    ∙ added_both (with_added (with_added sum first) second) third fourth c d is'' is'''
