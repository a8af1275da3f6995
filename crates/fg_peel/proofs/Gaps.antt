-- The gaps that a look at one line finds.
use Rattle.std.proofs.Common.{◌≡◌, ◌+◌, ◌*◌, ◌<◌, ◌≤◌, ℕ, List, [], ◌∷◌, length, get_or, Option, Some, None, Contains, sym, ap, ◌∙◌, ⊎_elim, arith}
use Rattle.std.proofs.Math.Nat.{mul-le-mul_right, add-mul}
use Rattle.std.proofs.lemmas.Bool.{cases_eq, cases_lt}
use Rattle.std.proofs.lemmas.List.Elements.{Contains-get_or}
use Rattle.fg_words.specs.declared.Word.{Word}
use Rattle.fg_shape.proofs.ShapeLemmas.{length-slots_of, get_or-slots_of}
use Rattle.fg_peel.specs.declared.Line.{Line}
use Rattle.fg_peel.specs.declared.Slot.{Slot}
use Rattle.fg_peel.specs.declared.span.Missing.TheVariants.{One}
use Rattle.fg_peel.specs.Equation.{Equation, slots, IsComplete}
use Rattle.fg_peel.specs.Look.{LacksTwo, IsNextGap}
use Rattle.fg_peel.specs.Peeling.{after_step}
use Rattle.fg_peel.specs.Recovery.{Fills}
use Rattle.fg_peel.specs.Slots.{IsMissing, OnlyFills, equation_of, FitsFrom, words_from}
use Rattle.fg_peel.proofs.Lists.{Contains-here}
use Rattle.fg_peel.proofs.Misses.{place_of}
use Rattle.fg_peel.proofs.Steps.{filled_by}

-- A slot of a greater number lies farther on.
slots_rise :
    (equation : Equation) (i j : ℕ) → 1 ≤ equation.offset → i < j → j < equation.count
    → get_or (slots equation) i 0 < get_or (slots equation) j 0
slots_rise equation i j some less within =
    let one = get_or-slots_of equation.base equation.offset equation.count i 0 (omega (arith, less, within)) in
    let other = get_or-slots_of equation.base equation.offset equation.count j 0 within in
    let far : (i + 1) * equation.offset ≤ j * equation.offset = mul-le-mul_right equation.offset (omega (arith, less)) in
    let cut : (i + 1) * equation.offset ≡ i * equation.offset + 1 * equation.offset = add-mul i 1 equation.offset in
    omega (arith, one, other, far, cut, some)

module _ (words : ℕ → Option Word) (equation : Equation) where
  -- No slot lacks its word.
  pub none_lacks : IsNextGap words equation 0 None → IsComplete words equation
  none_lacks gap position c =
      let p = place_of (slots equation) position c in
      rw p.2 at (gap p.0 (omega arith) (omega (arith, p.1, length-slots_of equation.base equation.offset equation.count)))

  -- A slot with this number.
  numbered : (number : ℕ) → number < equation.count → Contains (slots equation) (get_or (slots equation) number 0)
  numbered number within =
      Contains-get_or (slots equation) number 0 (omega (arith, within, length-slots_of equation.base equation.offset equation.count))

  -- Two slots lack theirs.
  pub two_lack :
      (first second : ℕ) → 1 ≤ equation.offset → IsNextGap words equation 0 (Some first)
      → IsNextGap words equation (first + 1) (Some second)
      → LacksTwo words equation (get_or (slots equation) first 0) (get_or (slots equation) second 0)
  two_lack first second some gap next =
      let after = next.0 in
      record {
        first_slot = numbered first gap.1;
        second_slot = numbered second next.1;
        before = slots_rise equation first second some (omega (arith, after)) next.1;
        first_lacks = gap.2;
        second_lacks = next.2;
        filled = λ slot c below.
            (let p = place_of (slots equation) slot c in
            let within : p.0 < equation.count = omega (arith, p.1, length-slots_of equation.base equation.offset equation.count) in
            ⊎_elim
            (λ (less : p.0 < first). rw p.2 at (gap.3 p.0 (omega arith) less))
            (λ (from : first ≤ p.0). ⊎_elim
            (λ (same : p.0 ≡ first).
            let at = ap (λ (k : ℕ). get_or (slots equation) k 0) same in
            let is = p.2 in
            absurd (omega (arith, at, is, below)))
            (λ differs.
            let rise = slots_rise equation first p.0 some (omega (arith, from, differs)) within in
            let is = p.2 in
            absurd (omega (arith, rise, is, below)))
            (cases_eq p.0 first))
            (cases_lt p.0 first));
      }

  -- Just one slot lacks its own.
  pub one_lacks :
      (first : ℕ) → IsNextGap words equation 0 (Some first) → IsNextGap words equation (first + 1) None
      → IsMissing words equation (One (get_or (slots equation) first 0))
  one_lacks first gap next = (
    numbered first gap.1,
    gap.2,
    λ other c differs.
        (let p = place_of (slots equation) other c in
        let within : p.0 < equation.count = omega (arith, p.1, length-slots_of equation.base equation.offset equation.count) in
        ⊎_elim
        (λ (less : p.0 < first). rw p.2 at (gap.3 p.0 (omega arith) less))
        (λ (from : first ≤ p.0). ⊎_elim
        (λ (same : p.0 ≡ first). absurd (differs (sym p.2 ∙ ap (λ (k : ℕ). get_or (slots equation) k 0) same)))
        (λ apart. rw p.2 at (next p.0 (omega (arith, from, apart)) within))
        (cases_eq p.0 first))
        (cases_lt p.0 first)),
  )

-- What is left where the one word was filled in.
module _
    (start : ℕ) (line : Line) (position : ℕ) (old new : List Slot) (fits : FitsFrom start (length old) line)
    (missing : IsMissing (words_from start old) (equation_of line) (One position))
    (fills : Fills start (equation_of line) position old new) where
  pub look_words : words_from start new ≡ after_step (words_from start old) (record { equation = equation_of line; position = position })
  look_words =
      (filled_by start (equation_of line ∷ []) line position old new fits (Contains-here (equation_of line) []) missing fills).end

  pub look_fills : OnlyFills old new
  look_fills =
      (filled_by start (equation_of line ∷ []) line position old new fits (Contains-here (equation_of line) []) missing fills).fills
