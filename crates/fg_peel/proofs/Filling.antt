-- Filling one entry: the parity word, and then the words at the other slots.
use Rattle.std.proofs.Common.{◌≡◌, ◌≢◌, ℕ, ◌+◌, ◌-◌, ◌<◌, ◌≤◌, List, length, drop, get_or, set, Some, refl, sym, ap, ◌∙◌, arith}
use Rattle.std.proofs.lemmas.List.{drop_more, drop_all, get_or-set_same, get_or-set_other, set-set}
use Rattle.fg_words.specs.declared.Word.{Word}
use Rattle.fg_words.specs.Word.{word_xor, HasRoom}
use Rattle.fg_peel.specs.declared.Slot.{Slot}
use Rattle.fg_peel.specs.declared.Slot.TheVariants.{Empty, Filled}
use Rattle.fg_peel.specs.Equation.{others, sum_at}
use Rattle.fg_peel.specs.Slots.{with_word, word_in, words_from}
use Rattle.fg_peel.proofs.Lists.{others-kept, others-head_dropped}
use Rattle.fg_peel.proofs.Entries.{told_from-entry}
use Rattle.fg_peel.proofs.Adding.{IsShort, xor_zero_short, short_xor, short_room, sum_more}

module _ (start : ℕ) (old : List Slot) (position : ℕ) (xs : List ℕ) (parity : Word) where
  -- After j slots the entry holds the parity word and their words, but the one's that is to be filled.
  pub record IsFilling (j : ℕ) (now : List Slot) : Type 0 where
    pub sum : Word
    pub entry : now ≡ set old (position - start) (Filled sum)
    pub rest :
        word_xor sum (sum_at (words_from start old) (others position (drop j xs)))
        ≡ word_xor parity (sum_at (words_from start old) (others position xs))
    pub short : IsShort sum

  pub filling_first : HasRoom parity → IsFilling 0 (set old (position - start) (Filled parity))
  filling_first room = record { sum = parity; entry = refl; rest = refl; short = short_room parity room }

  -- the slot that is to be filled is passed over
  pub filling_skips : (j : ℕ) (now : List Slot) → j < length xs → get_or xs j 0 ≡ position → IsFilling j now → IsFilling (j + 1) now
  filling_skips j now within same f =
      let cut = drop_more xs j 0 within in
      let gone = others-head_dropped position (get_or xs j 0) (drop (j + 1) xs) same in
      record { sum = f.sum; entry = f.entry; rest = rw (cut, gone) at f.rest; short = f.short }

  -- another slot adds its word
  pub filling_adds :
      (j : ℕ) (now new : List Slot) (word : Word) → j < length xs → position - start < length old → start ≤ position
      → start ≤ get_or xs j 0 → get_or xs j 0 ≢ position → words_from start old (get_or xs j 0) ≡ Some word
      → new ≡ set now (position - start) (with_word (get_or now (position - start) Empty) (word_in (get_or now (get_or xs j 0 - start) Empty)))
      → IsFilling j now → IsFilling (j + 1) new
  filling_adds j now new word within inside from from_other differs known adds f =
      let other = get_or xs j 0 in
      let target = position - start in
      let apart : other - start ≢ target = omega arith in
      let words = words_from start old in
      let cut = drop_more xs j 0 within in
      let kept = others-kept position other (drop (j + 1) xs) differs in
      let here : get_or now target Empty ≡ Filled f.sum =
      ap (λ (es : List Slot). get_or es target Empty) f.entry ∙ get_or-set_same old target (Filled f.sum) Empty inside in
      let there : word_in (get_or now (other - start) Empty) ≡ Some word =
      ap (λ (es : List Slot). word_in (get_or es (other - start) Empty)) f.entry
      ∙ ap word_in (get_or-set_other old target (other - start) (Filled f.sum) Empty apart)
      ∙ sym (told_from-entry word_in start old other from_other) ∙ known in
      let value : with_word (get_or now target Empty) (word_in (get_or now (other - start) Empty)) ≡ Filled (word_xor f.sum word) =
      ap (λ (e : Slot). with_word e (word_in (get_or now (other - start) Empty))) here ∙ ap (with_word (Filled f.sum)) there in
      record {
        sum = word_xor f.sum word;
        entry = adds ∙ ap (set now target) value ∙ ap (λ (es : List Slot). set es target (Filled (word_xor f.sum word))) f.entry
            ∙ set-set old target (Filled f.sum) (Filled (word_xor f.sum word));
        rest = sum_more words other (others position (drop (j + 1) xs)) word f.sum known ∙ (rw (cut, kept) at f.rest);
        short = short_xor f.sum word f.short;
      }

  -- all slots are done
  pub filling_done :
      (j : ℕ) (now : List Slot) → length xs ≤ j → IsFilling j now
      → now ≡ set old (position - start) (Filled (word_xor parity (sum_at (words_from start old) (others position xs))))
  filling_done j now past f =
      let none = drop_all j xs past in
      let whole : f.sum ≡ word_xor parity (sum_at (words_from start old) (others position xs)) =
      sym (xor_zero_short f.sum f.short) ∙ (rw none at f.rest) in
      f.entry ∙ ap (λ (w : Word). set old (position - start) (Filled w)) whole
