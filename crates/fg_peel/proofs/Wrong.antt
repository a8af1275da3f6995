-- Recovered words that are no media words.
use Rattle.std.proofs.Common.{◌≡◌, ◌+◌, ◌-◌, ◌<◌, ◌≤◌, ℕ, List, length, get_or, Some, None, sym, ap, ◌∙◌, ⊎_elim, arith, refl}
use Rattle.std.proofs.lemmas.List.{get_or_past}
use Rattle.std.proofs.lemmas.Bool.{cases_lt}
use Rattle.fg_words.specs.declared.Word.{Word}
use Rattle.fg_words.specs.Word.{IsMedia}
use Rattle.fg_peel.specs.declared.Slot.{Slot}
use Rattle.fg_peel.specs.declared.Slot.TheVariants.{Empty, Media, Solved, Filled}
use Rattle.fg_peel.specs.Slots.{recovered_in, recovered_from}
use Rattle.fg_peel.specs.Verdict.{IsLeast, IsNoMedia}
use Rattle.fg_peel.specs.Equation.{AreMedia}
use Rattle.fg_peel.specs.Recovery.{RecoversMedia}
use Rattle.fg_peel.proofs.Entries.{told_from-entry, told_from-below}

-- the word of an entry that recovers no media word
one_word : (w : Word) → (((word : Word) → Some w ≡ Some word → IsMedia word) → ⊥) → IsMedia w → ⊥
one_word w wrong media = wrong (λ word same. (let e : w ≡ word = (cc) in rw (← e) media))

wrong_word : (entry : Slot) → (RecoversMedia entry → ⊥) → (word : Word) × (recovered_in entry ≡ Some word) × (IsMedia word → ⊥)
wrong_word Empty wrong = absurd (wrong (λ word e. absurd (cc)))
wrong_word (Media w) wrong = absurd (wrong (λ word e. absurd (cc)))
wrong_word (Solved w) wrong = (w, refl, one_word w wrong)
wrong_word (Filled w) wrong = (w, refl, one_word w wrong)

module _ (start : ℕ) (entries : List Slot) where
  -- A position with an entry that recovers no wrong word has no wrong word.
  right_at : (position : ℕ) → start ≤ position → RecoversMedia (get_or entries (position - start) Empty) → IsNoMedia (recovered_from start entries) position → ⊥
  right_at position from right wrong =
      wrong.2 (right wrong.0 (sym (told_from-entry recovered_in start entries position from) ∙ wrong.1))

  right_below : (position : ℕ) → position < start → IsNoMedia (recovered_from start entries) position → ⊥
  right_below position below wrong =
      let e : None ≡ Some wrong.0 = sym (told_from-below recovered_in start entries position below) ∙ wrong.1 in (cc)

  -- the first entry with a wrong word
  pub wrong_first :
      (i : ℕ) → (RecoversMedia (get_or entries i Empty) → ⊥) → ((k : ℕ) → k < i → RecoversMedia (get_or entries k Empty))
      → IsLeast (IsNoMedia (recovered_from start entries)) (start + i)
  wrong_first i wrong right =
      let w = wrong_word (get_or entries i Empty) wrong in
      let from : start ≤ start + i = omega arith in
      let here : start + i - start ≡ i = omega arith in
      let told : recovered_from start entries (start + i) ≡ Some w.0 =
      told_from-entry recovered_in start entries (start + i) from ∙ ap (λ k. recovered_in (get_or entries k Empty)) here ∙ w.1 in (
        (w.0, told, w.2),
        λ m other. ⊎_elim
            (λ before. absurd (⊎_elim
            (λ below. right_below m below other)
            (λ above. right_at m above (right (m - start) (omega (arith, before, above))) other)
            (cases_lt m start)))
            (λ after. after)
            (cases_lt m (start + i)),
      )

  -- no entry has a wrong word
  pub wrong_none : ((k : ℕ) → k < length entries → RecoversMedia (get_or entries k Empty)) → AreMedia (recovered_from start entries)
  wrong_none right position word told = ⊎_elim
      (λ below. let e : None ≡ Some word = sym (told_from-below recovered_in start entries position below) ∙ told in absurd (cc))
      (λ above. let here = sym (told_from-entry recovered_in start entries position above) ∙ told in ⊎_elim
      (λ within. right (position - start) within word here)
      (λ past. let e : None ≡ Some word = sym (ap recovered_in (get_or_past entries (position - start) Empty past)) ∙ here in absurd (cc))
      (cases_lt (position - start) (length entries)))
      (cases_lt position start)
