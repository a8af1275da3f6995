-- The true words of an encoding, and that the parities of its equations are settled in them.
use Rattle.std.proofs.Common.{◌≡◌, ℕ, zero, suc, ◌+◌, ◌-◌, ◌*◌, ◌<◌, ◌≤◌, Bool, true, false, cond, ltb, List, [], ◌∷◌, length, map, Option, Some, None, IsSome, refl, sym, ap, subst, ⊎_elim, ◌∙◌, arith}
use Rattle.std.specs.List.{All, cons_option, filter_map, range_with_len}
use Rattle.std.proofs.Math.Nat.{mul-le-mul_right}
use Rattle.std.proofs.lemmas.Bool.{cases_lt}
use Rattle.std.proofs.lemmas.Bool.Decides.{nat_tests}
use Rattle.std.proofs.lemmas.List.Elements.{All-nil, All-cons, All-head, All-tail, All-contains}
use Rattle.fg_words.specs.declared.Word.{Word}
use Rattle.fg_words.specs.Word.{word_sum}
use Rattle.fg_shape.specs.declared.Shape.{Shape}
use Rattle.fg_shape.specs.declared.encoding.Settings.{Settings}
use Rattle.fg_shape.specs.Shape.{slots_of, IsShape}
use Rattle.fg_encode.specs.Encoding.{parity_at, word_at}
use Rattle.fg_results.specs.Flow.{parity_of}
use Rattle.fg_drill.specs.Sent.{words_sent}
use Rattle.fg_drill.specs.True.{IsTrueParity}

test_true : (a b : ℕ) → a < b → ltb a b ≡ true
test_true a b less = grind (arith, nat_tests)

test_false : (a b : ℕ) → b ≤ a → ltb a b ≡ false
test_false a b more = grind (arith, nat_tests)

module _ (settings : Settings) (payloads : List (List ℕ)) where
  pub word_sent : (slot : ℕ) → slot < length payloads → words_sent settings payloads slot ≡ Some (word_at settings payloads slot)
  word_sent slot below =
      ap (λ (b : Bool). cond b (Some (word_at settings payloads slot)) None) (test_true slot (length payloads) below)

  pub none_sent : (slot : ℕ) → length payloads ≤ slot → words_sent settings payloads slot ≡ None
  none_sent slot past =
      ap (λ (b : Bool). cond b (Some (word_at settings payloads slot)) None) (test_false slot (length payloads) past)

  -- Only the slots of the payloads have words, and these.
  pub word_below : (slot : ℕ) (word : Word) → words_sent settings payloads slot ≡ Some word → (slot < length payloads) × (word ≡ word_at settings payloads slot)
  word_below slot word is = ⊎_elim
      (λ (below : slot < length payloads). let here = word_sent slot below in (below, cc))
      (λ (past : length payloads ≤ slot). let none = none_sent slot past in absurd (cc))
      (cases_lt slot (length payloads))

  -- The words at slots of payloads
  words_at : (slots : List ℕ) → All (λ slot. slot < length payloads) slots → filter_map (words_sent settings payloads) slots ≡ map (word_at settings payloads) slots
  words_at [] below = refl
  words_at (slot ∷ slots) below =
      let here = word_sent slot (All-head (λ s. s < length payloads) slot slots below) in
      let rest = words_at slots (All-tail (λ s. s < length payloads) slot slots below) in
      ap (λ (o : Option Word). cons_option o (filter_map (words_sent settings payloads) slots)) here
      ∙ ap (λ (words : List Word). word_at settings payloads slot ∷ words) rest

  slots_below : (base offset a n : ℕ) → ((j : ℕ) → a ≤ j → j < a + n → base + j * offset < length payloads) → All (λ slot. slot < length payloads) (map (λ j. base + j * offset) (range_with_len a n))
  slots_below base offset a zero each = All-nil (λ slot. slot < length payloads)
  slots_below base offset a (suc n) each =
      All-cons (λ slot. slot < length payloads) (base + a * offset) (map (λ j. base + j * offset) (range_with_len (a + 1) n))
      (each a (omega arith) (omega arith)) (slots_below base offset (a + 1) n (λ j low high. each j (omega arith) (omega arith)))

  -- The parity of an equation whose last slot has a payload is the sum of true words.
  pub parity_is_true :
      (base : ℕ) (shape : Shape) (row : Bool) (slot : ℕ) → IsShape shape.offset shape.na
      → base + (shape.na - 1) * shape.offset ≡ slot → slot < length payloads
      → IsTrueParity settings.seq (words_sent settings payloads) slot (parity_of (parity_at settings payloads base shape row))
  parity_is_true base shape row slot read ends below =
      let slots : List ℕ = slots_of base shape.offset shape.na in
      let some = read.some_slot in
      let within : All (λ s. s < length payloads) slots = slots_below base shape.offset 0 shape.na (λ j low high.
      let reach : j ≤ shape.na - 1 = omega arith in
      let step : j * shape.offset ≤ (shape.na - 1) * shape.offset = mul-le-mul_right shape.offset reach in
      omega arith) in
      record {
        base = base;
        base_is = refl;
        shape = read;
        ends = ends;
        settled = (
          λ position inside.
              let there = word_sent position (All-contains (λ s. s < length payloads) slots position within inside) in
              subst (λ (o : Option Word). IsSome o) (sym there) refl,
          sym (ap (λ (words : List Word). word_sum words) (words_at slots within)),
        );
      }

  -- Its base is the equation's.
  pub parity_has_base :
      (base : ℕ) (shape : Shape) (row : Bool) (slot : ℕ) (read : IsShape shape.offset shape.na)
      (ends : base + (shape.na - 1) * shape.offset ≡ slot) (below : slot < length payloads)
      → (parity_is_true base shape row slot read ends below).base ≡ base
  unfolding parity_is_true
  parity_has_base base shape row slot read ends below = refl
