-- The slots whose bits are set.
use Rattle.std.proofs.Common.{◌≡◌, ◌≢◌, ◌<◌, ◌≤◌, ◌+◌, ◌*◌, ◌^◌, ◌%◌, ◌==◌, ◌||◌, ℕ, zero, suc, Bool, true, false, refl, sym, ap, subst, ◌∙◌, ⊎_elim, arith, eq-eqb, ne_eqb}
use Rattle.std.proofs.lemmas.Bool.{cases_eq, cond-true, cond-false, both_ways, false_from_ne_true}
use Rattle.std.proofs.lemmas.Nat.Bits.{bit_at_set_same, bit_at_set_other}
use Rattle.std.specs.Prelude.{bit_or}
use Rattle.std.specs.Int.{bit_at}
use Rattle.std.specs.Ordering.{nat_cmp}
use Rattle.std.specs.Cmp.{unsigned_tied, nat_cmp_total}
use Rattle.std.specs.FinSet.{FinSet, contains, insert, empty, contains-empty, contains-insert, same_set, nat_cmp-IsAntisymmetric}
use mir.Syntax.{w32}
use Rattle.fg_peel.proofs.Maps.{was_or_inserted}
use Rattle.fg_shape.proofs.ShapeLemmas.{slots_apart}
use Rattle.fg_core.proofs.Noting.{same_bool}
use Rattle.fg_tally.specs.Folding.{slots_in}

-- A set with one more number

pub has_inserted : (s : FinSet nat_cmp) (k q : ℕ) → q ≡ k → contains (insert s k) q ≡ true
has_inserted s k q same =
    contains-insert nat_cmp_total s k q
    ∙ ap (λ (b : Bool). b || contains s q) (unsigned_tied q k ∙ eq-eqb q k same)

pub beside_inserted : (s : FinSet nat_cmp) (k q : ℕ) → q ≢ k → contains (insert s k) q ≡ contains s q
beside_inserted s k q other =
    contains-insert nat_cmp_total s k q
    ∙ ap (λ (b : Bool). b || contains s q) (unsigned_tied q k ∙ ne_eqb q k other)

pub still_in : (s : FinSet nat_cmp) (k q : ℕ) → contains s q ≡ true → contains (insert s k) q ≡ true
still_in s k q is =
    ⊎_elim (λ same. has_inserted s k q same) (λ other. beside_inserted s k q other ∙ is) (cases_eq q k)

-- Bits

module _ (bits base offset : ℕ) where
  -- One bit more.
  set_bit : (n : ℕ) → bit_at bits n ≡ 1 → slots_in bits base offset (suc n) ≡ insert (slots_in bits base offset n) (base + n * offset)
  unfolding slots_in
  set_bit n is =
      cond-true (bit_at bits n == 1) (insert (slots_in bits base offset n) (base + n * offset)) (slots_in bits base offset n)
      (eq-eqb (bit_at bits n) 1 is)

  clear_bit : (n : ℕ) → bit_at bits n ≢ 1 → slots_in bits base offset (suc n) ≡ slots_in bits base offset n
  unfolding slots_in
  clear_bit n isnt =
      cond-false (bit_at bits n == 1) (insert (slots_in bits base offset n) (base + n * offset)) (slots_in bits base offset n)
      (ne_eqb (bit_at bits n) 1 isnt)

  more_bits : (n q : ℕ) → contains (slots_in bits base offset n) q ≡ true → contains (slots_in bits base offset (suc n)) q ≡ true
  more_bits n q is = ⊎_elim
      (λ set.
      ap (λ (s : FinSet nat_cmp). contains s q) (set_bit n set) ∙ still_in (slots_in bits base offset n) (base + n * offset) q is)
      (λ clear. ap (λ (s : FinSet nat_cmp). contains s q) (clear_bit n clear) ∙ is)
      (cases_eq (bit_at bits n) 1)

  -- The slot of a set bit is one of them.
  pub bit_is_in : (n j : ℕ) → j < n → bit_at bits j ≡ 1 → contains (slots_in bits base offset n) (base + j * offset) ≡ true
  bit_is_in zero j below set = absurd (omega (arith, below))
  bit_is_in (suc n) j below set = ⊎_elim
      (λ last.
      ap (λ (s : FinSet nat_cmp). contains s (base + j * offset))
      (set_bit n (subst (λ (k : ℕ). bit_at bits k ≡ 1) last set))
      ∙ has_inserted (slots_in bits base offset n) (base + n * offset) (base + j * offset)
      (ap (λ (k : ℕ). base + k * offset) last))
      (λ other. more_bits n (base + j * offset) (bit_is_in n j (omega (arith, below, other)) set))
      (cases_eq j n)

  -- And each of them is that of a set bit.
  pub bit_of_slot : (n q : ℕ) → contains (slots_in bits base offset n) q ≡ true
      → (j : ℕ) × (j < n) × (bit_at bits j ≡ 1) × (q ≡ base + j * offset)
  unfolding slots_in
  bit_of_slot zero q is = absurd (both_ways (contains (empty {R = nat_cmp}) q) (contains-empty nat_cmp q) is)
  bit_of_slot (suc n) q is = ⊎_elim
      (λ set. ⊎_elim
      (λ same. (n, omega arith, set, same))
      (λ was. let r = bit_of_slot n q was in (r.0, omega (arith, r.1), r.2, r.3))
      (was_or_inserted (slots_in bits base offset n) (base + n * offset) q
      (sym (ap (λ (s : FinSet nat_cmp). contains s q) (set_bit n set)) ∙ is)))
      (λ clear.
      let r = bit_of_slot n q (sym (ap (λ (s : FinSet nat_cmp). contains s q) (clear_bit n clear)) ∙ is) in
      (r.0, omega (arith, r.1), r.2, r.3))
      (cases_eq (bit_at bits n) 1)

  -- The slot of a bit that is clear isn't.
  pub clear_is_out : (n j : ℕ) → 1 ≤ offset → bit_at bits j ≢ 1 → contains (slots_in bits base offset n) (base + j * offset) ≡ false
  clear_is_out n j some clear = false_from_ne_true (contains (slots_in bits base offset n) (base + j * offset))
      (λ is.
      let r = bit_of_slot n (base + j * offset) is in
      clear (subst (λ (k : ℕ). bit_at bits k ≡ 1) (sym (slots_apart base offset j r.0 some r.3)) r.2))

-- One more bit is set.
module _ (bits base offset n k : ℕ) (below : k < n) (within : k < 32) where
  abbrev with_one : ℕ
  with_one = bit_or bits (1 * 2 ^ k % 2 ^ 32)

  in_more : (q : ℕ) → contains (slots_in with_one base offset n) q ≡ true
      → contains (insert (slots_in bits base offset n) (base + k * offset)) q ≡ true
  in_more q is =
      let r = bit_of_slot with_one base offset n q is in
      ⊎_elim
      (λ same.
      has_inserted (slots_in bits base offset n) (base + k * offset) q (r.3 ∙ ap (λ (j : ℕ). base + j * offset) same))
      (λ other.
      still_in (slots_in bits base offset n) (base + k * offset) q
      (subst (λ (p : ℕ). contains (slots_in bits base offset n) p ≡ true) (sym r.3)
      (bit_is_in bits base offset n r.0 r.1 (sym (bit_at_set_other w32 bits k within r.0 other) ∙ r.2))))
      (cases_eq r.0 k)

  was_less : (q : ℕ) → contains (insert (slots_in bits base offset n) (base + k * offset)) q ≡ true
      → contains (slots_in with_one base offset n) q ≡ true
  was_less q is = ⊎_elim
      (λ same.
      subst (λ (p : ℕ). contains (slots_in with_one base offset n) p ≡ true) (sym same)
      (bit_is_in with_one base offset n k below (bit_at_set_same w32 bits k within)))
      (λ was.
      let r = bit_of_slot bits base offset n q was in
      subst (λ (p : ℕ). contains (slots_in with_one base offset n) p ≡ true) (sym r.3)
      (bit_is_in with_one base offset n r.0 r.1 (⊎_elim
      (λ same. ap (bit_at with_one) same ∙ bit_at_set_same w32 bits k within)
      (λ other. bit_at_set_other w32 bits k within r.0 other ∙ r.2)
      (cases_eq r.0 k))))
      (was_or_inserted (slots_in bits base offset n) (base + k * offset) q is)

  pub with_bit : slots_in with_one base offset n ≡ insert (slots_in bits base offset n) (base + k * offset)
  with_bit = same_set nat_cmp_total nat_cmp-IsAntisymmetric
      (slots_in with_one base offset n) (insert (slots_in bits base offset n) (base + k * offset))
      (λ q. same_bool (contains (slots_in with_one base offset n) q)
      (contains (insert (slots_in bits base offset n) (base + k * offset)) q) (in_more q) (was_less q))
