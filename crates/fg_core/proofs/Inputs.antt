-- The words of a job: what its list of shares gives at the slots of its equation.
use Rattle.std.proofs.Common.{◌≡◌, ◌+◌, ◌*◌, ◌<◌, ◌≤◌, ℕ, zero, suc, List, [], ◌∷◌, map, length, get_or, drop, Option, Some, None, IsSome, is_some, false, refl, sym, ap, ◌∙◌, ⊎_elim, arith}
use Rattle.std.proofs.lemmas.Bool.{cases_eq}
use Rattle.std.proofs.lemmas.List.{drop_more, drop_all}
use Rattle.std.specs.List.{Contains, range_with_len, filter_map, cons_option}
use Rattle.std.specs.FinMap.{get}
use Rattle.fg_words.specs.declared.Word.{Word}
use Rattle.fg_words.specs.Word.{zero_word, word_xor, word_sum, HasRoom}
use Rattle.fg_words.specs.Laws.{XorAssociates, XorHasZero}
use Rattle.fg_shape.specs.Shape.{slots_of}
use Rattle.fg_shape.proofs.ShapeLemmas.{get_or-slots_of, slot_of_number, number_of_slot}
use Rattle.fg_peel.specs.declared.span.Missing.TheVariants.{One}
use Rattle.fg_peel.specs.Equation.{sum_at, IsComplete}
use Rattle.fg_peel.specs.Slots.{IsMissing}
use Rattle.fg_peel.proofs.Options.{none_or_some, has_value, none_has_no_value}
use Rattle.fg_peel.proofs.Maps.{in_empty, beside_inserted, inserted}
use Rattle.fg_core.specs.Work.{inputs_from, MissOne, HaveRoom}

pub none_of : {X : Type 0} (o : Option X) → is_some o ≡ false → o ≡ None
none_of None is = refl
none_of (Some x) is = absurd (cc)

-- No word stands before the first position.
none_before :
    (base offset : ℕ) (shares : List (Option Word)) (q : ℕ) → q < base → get (inputs_from base offset shares) q ≡ None
unfolding inputs_from
none_before base offset [] q before = in_empty q
none_before base offset (None ∷ shares) q before = none_before (base + offset) offset shares q (omega arith)
none_before base offset (Some word ∷ shares) q before =
    beside_inserted (inputs_from (base + offset) offset shares) base word q (λ same. omega (arith, same))
    ∙ none_before (base + offset) offset shares q (omega arith)

-- The word of each place of the list stands at its slot.
pub input_at :
    (base offset : ℕ) (shares : List (Option Word)) (j : ℕ) → 1 ≤ offset
    → get (inputs_from base offset shares) (base + j * offset) ≡ get_or shares j None
unfolding inputs_from
input_at base offset [] j some = in_empty (base + j * offset)
input_at base offset (None ∷ shares) zero some =
    none_before (base + offset) offset shares (base + 0 * offset) (omega arith)
input_at base offset (None ∷ shares) (suc j) some =
    let next : base + suc j * offset ≡ base + offset + j * offset = omega arith in
    ap (get (inputs_from (base + offset) offset shares)) next ∙ input_at (base + offset) offset shares j some
input_at base offset (Some word ∷ shares) zero some =
    inserted (inputs_from (base + offset) offset shares) base word (base + 0 * offset) (omega arith)
input_at base offset (Some word ∷ shares) (suc j) some =
    let next : base + suc j * offset ≡ base + offset + j * offset = omega arith in
    beside_inserted (inputs_from (base + offset) offset shares) base word (base + suc j * offset) (λ same. omega (arith, same, next, some))
    ∙ ap (get (inputs_from (base + offset) offset shares)) next ∙ input_at (base + offset) offset shares j some

-- No word stands anywhere else.
pub input_is_at_slot :
    (base offset : ℕ) (shares : List (Option Word)) (q : ℕ) (word : Word)
    → get (inputs_from base offset shares) q ≡ Some word
    → (j : ℕ) × (j < length shares) × (q ≡ base + j * offset)
unfolding inputs_from
input_is_at_slot base offset [] q word is = absurd (none_has_no_value _ (in_empty q) (has_value _ word is))
input_is_at_slot base offset (None ∷ shares) q word is =
    let r = input_is_at_slot (base + offset) offset shares q word is in
    (suc r.0, omega (arith, r.1), omega (arith, r.2))
input_is_at_slot base offset (Some first ∷ shares) q word is = ⊎_elim
    (λ same. (0, omega arith, omega (arith, same)))
    (λ other.
    let r = input_is_at_slot (base + offset) offset shares q word
    (sym (beside_inserted (inputs_from (base + offset) offset shares) base first q other) ∙ is) in
    (suc r.0, omega (arith, r.1), omega (arith, r.2)))
    (cases_eq q base)

module _ (base offset count : ℕ) (shares : List (Option Word)) (some : 1 ≤ offset) (all : length shares ≡ count) where
  -- Words stand at slots alone.
  pub input_is_slot : (q : ℕ) → IsSome (get (inputs_from base offset shares) q) → Contains (slots_of base offset count) q
  input_is_slot q has = ⊎_elim
      (λ none. absurd (none_has_no_value _ none has))
      (λ some_word.
      let r = input_is_at_slot base offset shares q some_word.0 some_word.1 in
      rw r.2 (slot_of_number base offset count r.0 (omega (arith, all, r.1))))
      (none_or_some (get (inputs_from base offset shares) q))

  -- The words have room.
  pub input_rooms : HaveRoom shares → (q : ℕ) (word : Word) → get (inputs_from base offset shares) q ≡ Some word → HasRoom word
  input_rooms rooms q word is =
      let r = input_is_at_slot base offset shares q word is in
      rooms r.0 word
      (sym (input_at base offset shares r.0 some) ∙ ap (get (inputs_from base offset shares)) (sym r.2) ∙ is)

  -- The word at a slot of this number.
  pub input_of_number :
      (j : ℕ) → j < count → get (inputs_from base offset shares) (get_or (slots_of base offset count) j 0) ≡ get_or shares j None
  input_of_number j below =
      ap (get (inputs_from base offset shares)) (get_or-slots_of base offset count j 0 below)
      ∙ input_at base offset shares j some

  -- Where a place has no word, its slot is the one without a word.
  pub missing_one :
      (parity : Word) (j : ℕ) → j < count → MissOne shares → get_or shares j None ≡ None
      → IsMissing (get (inputs_from base offset shares)) (record { base = base; offset = offset; count = count; parity = parity })
      (One (get_or (slots_of base offset count) j 0))
  missing_one parity j below one none =
      let here : get_or (slots_of base offset count) j 0 ≡ base + j * offset = get_or-slots_of base offset count j 0 below in (
        rw here (slot_of_number base offset count j below),
        input_of_number j below ∙ none,
        λ other c differs. (
            let n = number_of_slot base offset count other c in
            ⊎_elim
            (λ lacks. (
            let same : n.0 ≡ j = one n.0 j (omega (arith, all, n.1)) (omega (arith, all, below))
            (sym (input_at base offset shares n.0 some) ∙ ap (get (inputs_from base offset shares)) (sym n.2) ∙ lacks) none in
            absurd (differs (n.2 ∙ ap (λ k. base + k * offset) same ∙ sym here))
            ))
            (λ has. has_value _ has.0 has.1)
            (none_or_some (get (inputs_from base offset shares) other))
            ),
      )

  -- Where each place has a word, so has each slot.
  pub missing_none :
      (parity : Word) → ((j : ℕ) → j < count → IsSome (get_or shares j None))
      → IsComplete (get (inputs_from base offset shares)) (record { base = base; offset = offset; count = count; parity = parity })
  missing_none parity has q c =
      let n = number_of_slot base offset count q c in
      rw (← (sym (input_at base offset shares n.0 some) ∙ ap (get (inputs_from base offset shares)) (sym n.2))) (has n.0 n.1)

-- The sum of the words of a list.
pub total : List (Option Word) → Word
total [] = zero_word
total (None ∷ shares) = total shares
total (Some word ∷ shares) = word_xor word (total shares)

total_step :
    (rest : List Word) (shares : List (Option Word)) (found share : Option Word) → found ≡ share → word_sum rest ≡ total shares
    → word_sum (cons_option found rest) ≡ total (share ∷ shares)
unfolding total
total_step rest shares found None is sums = ap (λ (o : Option Word). word_sum (cons_option o rest)) is ∙ sums
total_step rest shares found (Some word) is sums =
    ap (λ (o : Option Word). word_sum (cons_option o rest)) is ∙ ap (word_xor word) sums

total_from :
    (words : ℕ → Option Word) (base offset from : ℕ) (shares : List (Option Word))
    → ((j : ℕ) → j < length shares → words (base + (from + j) * offset) ≡ get_or shares j None)
    → sum_at words (map (λ j. base + j * offset) (range_with_len from (length shares))) ≡ total shares
unfolding total
total_from words base offset from [] at = refl
total_from words base offset from (share ∷ shares) at =
    total_step (filter_map words (map (λ j. base + j * offset) (range_with_len (from + 1) (length shares)))) shares
    (words (base + from * offset)) share
    (let same : base + from * offset ≡ base + (from + 0) * offset = omega arith in ap words same ∙ at 0 (omega arith))
    (total_from words base offset (from + 1) shares
    (λ j below. (let same : base + (from + 1 + j) * offset ≡ base + (from + suc j) * offset = omega arith in ap words same ∙ at (suc j) (omega arith))))

-- It is the sum of the words at the slots.
pub total_is_sum :
    (base offset count : ℕ) (shares : List (Option Word)) → 1 ≤ offset → length shares ≡ count
    → sum_at (get (inputs_from base offset shares)) (slots_of base offset count) ≡ total shares
total_is_sum base offset count shares some all =
    ap (λ n. sum_at (get (inputs_from base offset shares)) (slots_of base offset n)) (sym all)
    ∙ total_from (get (inputs_from base offset shares)) base offset 0 shares
    (λ j below. (let same : base + (0 + j) * offset ≡ base + j * offset = omega arith in
    ap (get (inputs_from base offset shares)) same ∙ input_at base offset shares j some))

-- One more word of the list is added, or a place has none.
total_cons : (share : Option Word) (shares : List (Option Word)) (word : Word) → share ≡ Some word → total (share ∷ shares) ≡ word_xor word (total shares)
unfolding total
total_cons share shares word is = ap (λ (o : Option Word). total (o ∷ shares)) is

total_pass : (share : Option Word) (shares : List (Option Word)) → share ≡ None → total (share ∷ shares) ≡ total shares
unfolding total
total_pass share shares is = ap (λ (o : Option Word). total (o ∷ shares)) is

pub total_nil : total [] ≡ zero_word
unfolding total
total_nil = refl

module _ (shares : List (Option Word)) (j : ℕ) (sum whole : Word) (below : j < length shares)
    (so_far : word_xor sum (total (drop j shares)) ≡ whole) where
  cut : drop j shares ≡ get_or shares j None ∷ drop (j + 1) shares
  cut = drop_more shares j None below

  pub adds : XorAssociates → (word : Word) → get_or shares j None ≡ Some word → word_xor (word_xor sum word) (total (drop (j + 1) shares)) ≡ whole
  adds associates word is =
      associates sum word (total (drop (j + 1) shares))
      ∙ ap (word_xor sum) (sym (ap total cut ∙ total_cons (get_or shares j None) (drop (j + 1) shares) word is)) ∙ so_far

  pub passes : get_or shares j None ≡ None → word_xor sum (total (drop (j + 1) shares)) ≡ whole
  passes is = ap (word_xor sum) (sym (ap total cut ∙ total_pass (get_or shares j None) (drop (j + 1) shares) is)) ∙ so_far

-- The sum is whole at the end.
pub all_added :
    (shares : List (Option Word)) (j : ℕ) (sum whole : Word) → XorHasZero → HasRoom sum → length shares ≤ j
    → word_xor sum (total (drop j shares)) ≡ whole → sum ≡ whole
all_added shares j sum whole has_zero room past so_far =
    sym (has_zero sum room) ∙ ap (word_xor sum) (sym (ap total (drop_all j shares past) ∙ total_nil)) ∙ so_far
