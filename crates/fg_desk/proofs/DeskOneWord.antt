-- Words with one more, and what peelings and equations make of them.
use Rattle.std.proofs.Common.{◌≡◌, ◌≢◌, ◌≤◌, ◌==◌, ◌++◌, ◌∷◌, [], ℕ, length, List, filter, Option, Some, None, IsSome, bit_xor, is_none, refl, sym, ap, subst, ◌∙◌, ⊎_elim, arith, eq-eqb, ne_eqb}
use Rattle.std.proofs.lemmas.Bool.{cases_eq, cond-true, cond-false}
use Rattle.std.proofs.lemmas.Option.{none-some, same_Some}
use Rattle.std.proofs.lemmas.Simd.{length-replicate}
use Rattle.std.specs.List.{filter_map}
use Rattle.std.specs.Option.{option_or}
use Rattle.std.specs.FinMap.{get, remove}
use Rattle.std.specs.Simd.Lanes.{zip2}
use Rattle.fg_words.specs.declared.Word.{Word}
use Rattle.fg_words.specs.Word.{HasRoom, word_xor, word_sum}
use Rattle.fg_words.specs.Laws.{XorAssociates, XorCommutes, XorHasZero, XorUndoesItself}
use Rattle.fg_peel.specs.declared.span.Missing.TheVariants.{One}
use Rattle.fg_peel.specs.Equation.{Equation, Keeps, Agree, IsSettled, slots, others, sum_at}
use Rattle.fg_peel.specs.Peeling.{Step, CanFollow, ArePeeled, after_step, given_word, end_of}
use Rattle.fg_peel.specs.Slots.{IsMissing}
use Rattle.fg_peel.specs.Laws.{PeelingsAppend, PeelingsTakeWords}
use Rattle.fg_peel.proofs.Lists.{others-element}
use Rattle.fg_peel.proofs.Slots.{slots_distinct}
use Rattle.fg_peel.proofs.Sums.{sum_at-agree, sum_at-split}
use Rattle.fg_peel.proofs.Options.{has_value, or_first}
use Rattle.fg_peel.proofs.Maps.{beside_removed}
use Rattle.fg_peel.specs.Words.{Words}
use Rattle.fg_peel.proofs.Peelings.{end_of-keeps}

-- The later words have one more, or the same word anew.
pub record IsWith (position : ℕ) (word : Word) (now later : ℕ → Option Word) : Type 0 where
  pub here : (q : ℕ) → q ≡ position → later q ≡ Some word
  pub beside : (q : ℕ) → q ≢ position → later q ≡ now q

module _
    (position : ℕ) (word : Word) (now later : ℕ → Option Word) (is : IsWith position word now later)
    (agrees : (found : Word) → now position ≡ Some found → found ≡ word) where
  -- Where no other word was there, all words stay.
  pub words_stay : Keeps now later
  words_stay q found at = ⊎_elim
      (λ here. is.here q here ∙ ap Some (sym (agrees found (ap now (sym here) ∙ at))))
      (λ beside. is.beside q beside ∙ at)
      (cases_eq q position)

  -- Where it was there, nothing changes.
  pub same_words : now position ≡ Some word → later ≡ now
  same_words there = λ i q. at q i
    where
      at : (q : ℕ) → later q ≡ now q
      at q = ⊎_elim
          (λ here. is.here q here ∙ sym (ap now here ∙ there))
          (λ beside. is.beside q beside)
          (cases_eq q position)

or_itself : (one other : Option Word) → ((w : Word) → one ≡ Some w → other ≡ Some w) → other ≡ option_or one other
or_itself None other keeps = refl
or_itself (Some w) other keeps = keeps w refl

-- Words with one more, before other words of which that position's goes.
pub with_removed :
    (position : ℕ) (word : Word) (now later : ℕ → Option Word) (others : Words) → IsWith position word now later
    → IsWith position word (λ q. option_or (now q) (get others q)) (λ q. option_or (later q) (get (remove others position) q))
with_removed position word now later others is = record {
  here = λ q here. or_first (later q) (get (remove others position) q) word (is.here q here);
  beside = λ q beside.
      (ap (λ (o : Option Word). option_or o (get (remove others position) q)) (is.beside q beside)
      ∙ ap (option_or (now q)) (beside_removed others position q beside));
}

-- A peeling stays one where a word becomes known at a position at which it has no other one.
module _
    (take : PeelingsTakeWords) (equations : List Equation) (known more now later : ℕ → Option Word) (position : ℕ) (word : Word)
    (unknown : known position ≡ None) (received : IsWith position word known more) (added : IsWith position word now later)
    (agrees : (found : Word) → now position ≡ Some found → found ≡ word) (peeled : ArePeeled equations known now) where
  known_stays : Keeps known more
  known_stays = words_stay position word known more received (λ found is. absurd (none-some found (sym unknown ∙ is)))

  known_agrees : Agree more (end_of known peeled.0)
  known_agrees q one other is found =
      let at : now q ≡ Some other = ap (λ (f : ℕ → Option Word). f q) peeled.2 ∙ found in
      ⊎_elim
      (λ here.
      let first : word ≡ one = same_Some word one (sym (received.here q here) ∙ is) in
      let second : other ≡ word = agrees other (ap now (sym here) ∙ at) in
      sym first ∙ sym second)
      (λ beside.
      same_Some one other
      (sym (end_of-keeps known equations peeled.0 peeled.1 q one (sym (received.beside q beside) ∙ is)) ∙ found))
      (cases_eq q position)

  pub peeled_with_known : ArePeeled equations more later
  peeled_with_known =
      let rest : List Step = filter (λ (step : Step). is_none (more step.position)) peeled.0 in
      let r = take known more equations peeled.0 peeled.1 known_stays known_agrees in
      let same : (q : ℕ) → later q ≡ end_of more rest q =
      λ q. ⊎_elim
      (λ here.
      added.here q here
      ∙ sym (r.1 q ∙ ap (λ (o : Option Word). option_or o (end_of known peeled.0 q)) (received.here q here)))
      (λ beside.
      added.beside q beside
      ∙ ap (λ (f : ℕ → Option Word). f q) peeled.2
      ∙ or_itself (known q) (end_of known peeled.0 q) (end_of-keeps known equations peeled.0 peeled.1 q)
      ∙ sym (r.1 q ∙ ap (λ (o : Option Word). option_or o (end_of known peeled.0 q)) (received.beside q beside)))
      (cases_eq q position) in
      (rest, r.0, λ i q. same q i)

-- With one more step a peeling is one.
pub peeled_with_step :
    PeelingsAppend → (equations : List Equation) (known now later : ℕ → Option Word) (step : Step)
    → CanFollow now equations step → IsWith step.position (given_word now step) now later → ArePeeled equations known now
    → ArePeeled equations known later
peeled_with_step append equations known now later step can added peeled =
    let follows : CanFollow (end_of known peeled.0) equations step =
    subst (λ (f : ℕ → Option Word). CanFollow f equations step) peeled.2 can in
    let joined = append known equations peeled.0 (step ∷ []) peeled.1 (follows, tt) in
    let same : (q : ℕ) → later q ≡ after_step now step q =
    λ q. ⊎_elim
    (λ here.
    added.here q here ∙ sym (cond-true (q == step.position) (Some (given_word now step)) (now q) (eq-eqb q step.position here)))
    (λ beside.
    added.beside q beside ∙ sym (cond-false (q == step.position) (Some (given_word now step)) (now q) (ne_eqb q step.position beside)))
    (cases_eq q step.position) in
    let after : later ≡ after_step now step = λ i q. same q i in (
      peeled.0 ++ step ∷ [],
      joined.0,
      after ∙ ap (λ (f : ℕ → Option Word). after_step f step) peeled.2 ∙ sym joined.1,
    )

zip_short : (xs ys : List ℕ) → length (zip2 bit_xor xs ys) ≤ length ys
zip_short [] ys = omega arith
zip_short (x ∷ xs) [] = omega arith
zip_short (x ∷ xs) (y ∷ ys) = let h = zip_short xs ys in omega (arith, h)

sum_short : (words : List Word) → length (word_sum words).bytes ≤ 1316
sum_short [] = let zeros = length-replicate {A = ℕ} 1316 0 in omega (arith, zeros)
sum_short (word ∷ words) = let h = sum_short words in let z = zip_short word.bytes (word_sum words).bytes in omega (arith, h, z)

-- An equation is settled by the word that it gives at its one slot without one.
module _
    (equation : Equation) (slot : ℕ) (word : Word) (now later : ℕ → Option Word) (some_offset : 1 ≤ equation.offset)
    (missing : IsMissing now equation (One slot))
    (word_is : word ≡ given_word now (record { equation = equation; position = slot })) (room : HasRoom word)
    (parity_room : HasRoom equation.parity) (added : IsWith slot word now later) (commutes : XorCommutes)
    (associates : XorAssociates) (has_zero : XorHasZero) (undoes : XorUndoesItself) where
  -- The sum of the words at the other slots, before and after.
  abbrev rest : Word
  rest = sum_at now (others slot (slots equation))

  same_rest : sum_at later (others slot (slots equation)) ≡ rest
  same_rest = sum_at-agree later now (others slot (slots equation))
      (λ q c. added.beside q (others-element slot (slots equation) q c).1)

  rest_room : HasRoom rest
  rest_room =
      let size : length (zip2 bit_xor equation.parity.bytes rest.bytes) ≡ 1316 = ap (λ (w : Word). length w.bytes) (sym word_is) ∙ room in
      let most = zip_short equation.parity.bytes rest.bytes in
      let short = sum_short (filter_map now (others slot (slots equation))) in
      omega (arith, size, most, short)

  sums : word_xor word rest ≡ equation.parity
  sums =
      ap (λ (w : Word). word_xor w rest) word_is ∙ associates equation.parity rest rest
      ∙ ap (word_xor equation.parity) (undoes rest rest_room) ∙ has_zero equation.parity parity_room

  pub settled_by_word : IsSettled later equation
  settled_by_word = (
    λ q c. ⊎_elim
        (λ here. has_value (later q) word (added.here q here))
        (λ beside. subst (λ (o : Option Word). IsSome o) (sym (added.beside q beside)) (missing.2 q c beside))
        (cases_eq q slot),
    sym (sum_at-split later slot word (added.here slot refl) (slots equation) (slots_distinct equation some_offset) missing.0
        ∙ ap (word_xor word) same_rest ∙ sums),
  )
