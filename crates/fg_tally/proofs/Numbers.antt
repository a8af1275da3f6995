-- Slots by their numbers, and what bits make of them.
use Rattle.std.proofs.Common.{◌≡◌, ◌≢◌, ◌<◌, ◌≤◌, ◌+◌, ◌-◌, ◌*◌, ◌/◌, ◌^◌, ◌%◌, ◌==◌, ℕ, zero, suc, true, refl, sym, ap, subst, ◌∙◌, ⊎_elim, arith}
use Rattle.std.proofs.Math.Nat.{mul-div_cancel}
use Rattle.std.proofs.lemmas.Bool.{cases_lt, cond-true, cond-false}
use Rattle.std.proofs.lemmas.Nat.{one_shl, pow_below}
use Rattle.std.proofs.lemmas.Nat.Bits.{bit_at_above, bit_at-zero}
use Rattle.std.specs.Prelude.{bit_or}
use Rattle.std.specs.Int.{bit_at}
use Rattle.std.specs.List.{Contains}
use Rattle.std.specs.Ordering.{nat_cmp}
use Rattle.std.specs.FinSet.{FinSet, contains, insert, empty}
use Rattle.fg_words.specs.declared.Word.{Word}
use Rattle.fg_words.specs.Word.{word_xor}
use Rattle.fg_shape.specs.Shape.{slots_of}
use Rattle.fg_shape.proofs.ShapeLemmas.{number_of_slot, slots_apart}
use Rattle.fg_core.specs.declared.key.Key.{Key}
use Rattle.fg_tally.specs.Folding.{FoldingState, with_folded, slots_in, Shows}
use Rattle.fg_tally.specs.declared.answers.Held.{Held}
use Rattle.fg_tally.proofs.Bits.{bit_is_in, bit_of_slot, clear_is_out, with_bit}

-- A slot's number is its distance from the base, by offsets.
pub record IsNumber (base offset na slot number : ℕ) : Type 0 where
  pub above : base ≤ slot
  pub below : number < na
  pub slot_is : slot ≡ base + number * offset

pub number_is :
    (base offset na slot : ℕ) → 1 ≤ offset → Contains (slots_of base offset na) slot
    → IsNumber base offset na slot ((slot - base) / offset)
number_is base offset na slot some c =
    let n = number_of_slot base offset na slot c in
    let distance : slot - base ≡ n.0 * offset = omega (arith, n.2) in
    let number : (slot - base) / offset ≡ n.0 = ap (λ (d : ℕ). d / offset) distance ∙ mul-div_cancel n.0 some in
    record {
      above = omega (arith, n.2);
      below = subst (λ (j : ℕ). j < na) (sym number) n.1;
      slot_is = n.2 ∙ ap (λ (j : ℕ). base + j * offset) (sym number);
    }

-- One bit of those that slots have.
pub one_bit_below : (number na : ℕ) → number < na → na ≤ 32 → 1 * 2 ^ number % 2 ^ 32 < 2 ^ na
one_bit_below number na below few =
    subst (λ (b : ℕ). b < 2 ^ na) (sym (one_shl number 32 (omega (arith, below, few)))) (pow_below number na below)

-- Without a bit.
pub none_set : (base offset n : ℕ) → slots_in 0 base offset n ≡ empty
unfolding slots_in
none_set base offset zero = refl
none_set base offset (suc n) =
    cond-false (bit_at 0 n == 1) (insert (slots_in 0 base offset n) (base + n * offset)) (slots_in 0 base offset n)
    (ap (λ (b : ℕ). b == 1) (bit_at-zero n))
    ∙ none_set base offset n

module _ (key : Key) (base offset na : ℕ) (parity : Word) (bits : ℕ) (remainder : Word) where
  -- What bits stand for.
  abbrev pub state_by : FoldingState
  state_by = record {
    key = key;
    equation = record { base = base; offset = offset; count = na; parity = parity };
    folded = slots_in bits base offset na;
    remainder = remainder;
  }

  module _ (slot number : ℕ) (word : Word) (below : number < na) (slot_is : slot ≡ base + number * offset) where
    -- Its word isn't folded again where the bit is set,
    pub folded_before : bit_at bits number ≡ 1 → state_by ≡ with_folded state_by slot word
    folded_before set = sym (cond-true (contains (slots_in bits base offset na) slot) state_by
        (record state_by { folded = insert (slots_in bits base offset na) slot; remainder = word_xor remainder word })
        (subst (λ (q : ℕ). contains (slots_in bits base offset na) q ≡ true) (sym slot_is)
        (bit_is_in bits base offset na number below set)))

    -- and is where it is clear.
    pub folded_now :
        1 ≤ offset → number < 32 → bit_at bits number ≢ 1
        → record state_by {
          folded = slots_in (bit_or bits (1 * 2 ^ number % 2 ^ 32)) base offset na;
          remainder = word_xor remainder word;
        } ≡ with_folded state_by slot word
    folded_now some within clear =
        ap (λ (s : FinSet nat_cmp). record state_by { folded = s; remainder = word_xor remainder word })
        (with_bit bits base offset na number below within ∙ ap (insert (slots_in bits base offset na)) (sym slot_is))
        ∙ sym (cond-false (contains (slots_in bits base offset na) slot) state_by
        (record state_by { folded = insert (slots_in bits base offset na) slot; remainder = word_xor remainder word })
        (ap (contains (slots_in bits base offset na)) slot_is ∙ clear_is_out bits base offset na number some clear))

  -- What is shown of them.
  pub shows_bits :
      1 ≤ offset → bits < 2 ^ na → (held : Held) → held.key ≡ key → held.base ≡ base → held.shape.offset ≡ offset
      → held.shape.na ≡ na → held.folded ≡ bits → Shows state_by held
  shows_bits some few held key_is base_is offset_is count_is folded_is = record {
    key = key_is;
    base = base_is;
    offset = offset_is;
    count = count_is;
    folded = λ j. (
      λ set.
          (let bit : bit_at bits j ≡ 1 = sym (ap (λ (b : ℕ). bit_at b j) folded_is) ∙ set in
          let below : j < na = ⊎_elim
          (λ l. l)
          (λ above. let no = bit_at_above bits na j few above in absurd (omega (arith, no, bit)))
          (cases_lt j na) in
          (below, bit_is_in bits base offset na j below bit)),
      λ both.
          (let r = bit_of_slot bits base offset na (base + j * offset) both.1 in
          ap (λ (b : ℕ). bit_at b j) folded_is
          ∙ subst (λ (k : ℕ). bit_at bits k ≡ 1) (sym (slots_apart base offset j r.0 some r.3)) r.2),
    );
  }
