-- Rows of entries that steps of a peeling lead to.
use Rattle.std.proofs.Common.{◌≡◌, ◌+◌, ◌-◌, ◌<◌, ◌≤◌, ℕ, cond, List, [], ◌∷◌, ◌++◌, length, get_or, set, Option, None, IsSome, inl, inr, refl, sym, ap, ◌∙◌, ⊎_elim, subst, arith}
use Rattle.std.proofs.Math.Path.{fun_ext}
use Rattle.std.proofs.lemmas.List.{length-set, get_or-set_same, get_or-set_other, length-append}
use Rattle.std.proofs.lemmas.List.Sums.{sum_by-set}
use Rattle.std.proofs.lemmas.Bool.{cases_eq, cases_lt}
use Rattle.std.specs.List.{Contains}
use Rattle.fg_words.specs.declared.Word.{Word}
use Rattle.fg_peel.specs.declared.Line.{Line}
use Rattle.fg_peel.specs.declared.Slot.{Slot}
use Rattle.fg_peel.specs.declared.Slot.TheVariants.{Empty, Media, Solved, Filled}
use Rattle.fg_peel.specs.declared.span.Missing.TheVariants.{One}
use Rattle.fg_peel.specs.Equation.{Equation}
use Rattle.fg_peel.specs.Peeling.{Step, CanFollow, IsPeeling, after_step, end_of, given_word}
use Rattle.fg_peel.specs.Slots.{OnlyFills, word_in, equation_of, FitsFrom, IsMissing, words_from}
use Rattle.fg_peel.specs.Recovery.{Fills, IsPeeledBy, IsPeeled, is_empty, empty_count}
use Rattle.fg_peel.proofs.Entries.{told_from-entry, told_from-below}
use Rattle.fg_peel.proofs.Verdicts.{end_of-append, IsPeeling-append}
use Rattle.fg_peel.proofs.Peelings.{after_step-at, after_step-other}

-- an entry without a word is empty
empty_entry : (entry : Slot) → word_in entry ≡ None → entry ≡ Empty
empty_entry Empty none = refl
empty_entry (Media word) none = absurd (cc)
empty_entry (Solved word) none = absurd (cc)
empty_entry (Filled word) none = absurd (cc)

-- nothing has changed
pub OnlyFills-refl : (entries : List Slot) → OnlyFills entries entries
OnlyFills-refl entries = record { count = refl; kept = λ k some. refl; filled = λ k none. inl none }

pub OnlyFills-trans : (old mid new : List Slot) → OnlyFills old mid → OnlyFills mid new → OnlyFills old new
OnlyFills-trans old mid new one other = record {
  count = other.count ∙ one.count;
  kept = λ k some. (let same = one.kept k some in other.kept k (λ none. some (sym same ∙ none)) ∙ same);
  filled = λ k none. ⊎_elim
      (λ still. other.filled k still)
      (λ now. inr (now.0, other.kept k (λ gone. (let e : Filled now.0 ≡ Empty = sym now.1 ∙ gone in cc)) ∙ now.1))
      (one.filled k none);
}

-- one empty entry is filled
module _ (old : List Slot) (at : ℕ) (word : Word) (within : at < length old) (none : get_or old at Empty ≡ Empty) where
  fill-OnlyFills : OnlyFills old (set old at (Filled word))
  fill-OnlyFills = record {
    count = length-set old at (Filled word);
    kept = λ k some. ⊎_elim
        (λ same. absurd (some (ap (λ i. get_or old i Empty) same ∙ none)))
        (λ other. get_or-set_other old at k (Filled word) Empty other)
        (cases_eq k at);
    filled = λ k empty. ⊎_elim
        (λ same. inr (word, ap (λ i. get_or (set old at (Filled word)) i Empty) same ∙ get_or-set_same old at (Filled word) Empty within))
        (λ other. inl (get_or-set_other old at k (Filled word) Empty other ∙ empty))
        (cases_eq k at);
  }

  fill-count : empty_count (set old at (Filled word)) + 1 ≡ empty_count old
  fill-count =
      let changed = sum_by-set (λ (e : Slot). cond (is_empty e) 1 0) old at (Filled word) Empty within in
      let was : ◌≡◌ {A = ℕ} (cond (is_empty (get_or old at Empty)) 1 0) 1 = ap (λ (e : Slot). cond (is_empty e) 1 0) none in
      omega (arith, changed, was)

-- what the entries tell after a step
pub fill-told :
    (start : ℕ) (old : List Slot) (step : Step) → start ≤ step.position → step.position - start < length old
    → words_from start (set old (step.position - start) (Filled (given_word (words_from start old) step)))
    ≡ after_step (words_from start old) step
fill-told start old step from within = fun_ext (λ q. ⊎_elim
    (λ same. rw same (
    told_from-entry word_in start new step.position from
    ∙ ap word_in (get_or-set_same old at (Filled word) Empty within)
    ∙ sym (after_step-at words step)))
    (λ differs. ⊎_elim
    (λ below. told_from-below word_in start new q below ∙ sym (told_from-below word_in start old q below) ∙ sym (after_step-other words step q differs))
    (λ above.
    told_from-entry word_in start new q above
    ∙ ap word_in (get_or-set_other old at (q - start) (Filled word) Empty (λ same. differs (omega (arith, same, above, from))))
    ∙ sym (told_from-entry word_in start old q above)
    ∙ sym (after_step-other words step q differs))
    (cases_lt q start))
    (cases_eq q step.position))
  where
    at : ℕ
    at = step.position - start

    words : ℕ → Option Word
    words = words_from start old

    word : Word
    word = given_word words step

    new : List Slot
    new = set old at (Filled word)

-- one step of a peeling
pub filled_by :
    (start : ℕ) (equations : List Equation) (line : Line) (position : ℕ) (old new : List Slot) → FitsFrom start (length old) line
    → Contains equations (equation_of line) → IsMissing (words_from start old) (equation_of line) (One position)
    → Fills start (equation_of line) position old new
    → IsPeeledBy start equations old new (record { equation = equation_of line; position = position } ∷ [])
filled_by start equations line position old new fits listed missing fills =
    let step : Step = record { equation = equation_of line; position = position } in
    let words = words_from start old in
    let room = fits.within position missing.0 in
    let within : position - start < length old = omega (arith, room) in
    let none : get_or old (position - start) Empty ≡ Empty =
    empty_entry (get_or old (position - start) Empty) (sym (told_from-entry word_in start old position room.0) ∙ missing.1) in
    let can : CanFollow words equations step =
    record { listed = listed; slot = missing.0; unknown = missing.1; others_known = missing.2 } in
    record {
      peeling = (can, tt);
      end = ap (words_from start) fills ∙ fill-told start old step room.0 within;
      fills = rw fills (fill-OnlyFills old (position - start) (given_word words step) within none);
      counts = rw fills (fill-count old (position - start) (given_word words step) within none);
    }

-- no step
pub peeled_none : (start : ℕ) (equations : List Equation) (entries : List Slot) → IsPeeledBy start equations entries entries []
peeled_none start equations entries =
    record { peeling = tt; end = refl; fills = OnlyFills-refl entries; counts = omega arith }

-- steps after steps
pub peeled_more :
    (start : ℕ) (equations : List Equation) (old mid new : List Slot) (one other : List Step) → IsPeeledBy start equations old mid one
    → IsPeeledBy start equations mid new other → IsPeeledBy start equations old new (one ++ other)
peeled_more start equations old mid new one other first second = record {
  peeling = IsPeeling-append (words_from start old) equations one other first.peeling
      (let P : (ℕ → Option Word) → Type 0 = λ words. IsPeeling words equations other in subst P first.end second.peeling);
  end = second.end ∙ ap (λ (words : ℕ → Option Word). end_of words other) first.end ∙ sym (end_of-append (words_from start old) one other);
  fills = OnlyFills-trans old mid new first.fills second.fills;
  counts = omega (arith, length-append one other, first.counts, second.counts);
}

pub IsPeeled-refl : (start : ℕ) (equations : List Equation) (entries : List Slot) → IsPeeled start equations entries entries
IsPeeled-refl start equations entries = ([], peeled_none start equations entries)

pub IsPeeled-trans :
    (start : ℕ) (equations : List Equation) (old mid new : List Slot) → IsPeeled start equations old mid
    → IsPeeled start equations mid new → IsPeeled start equations old new
IsPeeled-trans start equations old mid new one other =
    (one.0 ++ other.0, peeled_more start equations old mid new one.0 other.0 one.1 other.1)

pub IsPeeled-count :
    (start : ℕ) (equations : List Equation) (old new : List Slot) → IsPeeled start equations old new → empty_count new ≤ empty_count old
IsPeeled-count start equations old new p = omega (arith, p.1.counts)

-- the position of a step has a word then
pub peeled_has :
    (start : ℕ) (equations : List Equation) (old new : List Slot) (step : Step) → IsPeeledBy start equations old new (step ∷ [])
    → IsSome (words_from start new step.position)
peeled_has start equations old new step by =
    let P : (ℕ → Option Word) → Type 0 = λ words. IsSome (words step.position) in
    let after : P (after_step (words_from start old) step) = rw (after_step-at (words_from start old) step) refl in
    subst P (sym by.end) after
