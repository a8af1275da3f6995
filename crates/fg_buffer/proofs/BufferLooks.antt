-- What a look at one line leaves of a buffer of entries.
use Rattle.std.proofs.Common.{◌≡◌, ◌≢◌, ◌⊎◌, ◌+◌, ◌-◌, ◌<◌, ◌≤◌, ℕ, IsSome, List, length, take, drop, get_or, Option, None, nat_lt, if◌then◌else◌, cond, inl, inr, refl, sym, ap, ◌∙◌, ⊎_elim, subst, arith}
use Rattle.std.proofs.lemmas.Bool.{cases_lt, cases_eq}
use Rattle.std.proofs.lemmas.List.{length-drop, length-take, get_or-drop, get_or-take}
use Rattle.std.specs.List.{Contains}
use Rattle.fg_words.specs.declared.Word.{Word}
use Rattle.fg_peel.specs.declared.Slot.{Slot}
use Rattle.fg_peel.specs.declared.Slot.TheVariants.{Empty, Media, Solved, Filled}
use Rattle.fg_peel.specs.declared.Line.{Line}
use Rattle.fg_peel.specs.declared.looks.Look.{Look}
use Rattle.fg_peel.specs.declared.looks.Look.TheVariants.{Several, Found, Complete}
use Rattle.fg_peel.specs.Equation.{slots}
use Rattle.fg_peel.specs.Look.{IsLook}
use Rattle.fg_peel.specs.Peeling.{Step}
use Rattle.fg_peel.specs.Slots.{word_in, equation_of, OnlyFills}
use Rattle.fg_peel.proofs.Options.{none_has_no_value}
use Rattle.fg_peel.proofs.Peelings.{after_step-other}
use Rattle.fg_buffer.specs.PlayoutBuffer.{buffer_words, LiesIn}
use Rattle.fg_buffer.specs.BufferEntries.{entry_at, words_of, received_in, solved_in, buffer_of, AreEntries, SolvedAreMedia, LooksAt}
use Rattle.fg_buffer.proofs.BufferChanges.{same_kept, same_bare, same_repaired}
use Rattle.fg_buffer.proofs.BufferPeels.{buffer_words-of}
use Rattle.fg_buffer.proofs.Choices.{if-less}
use Rattle.fg_buffer.proofs.BufferViews.{entry_at-buffer, entry_at-before, get-kept, get-media, get-solved, same_buffer, some_along}

-- Entries of which only some past the first ones were filled.
pub fills_past :
    (below : ℕ) (old new : List Slot) → below ≤ length old → take below new ≡ take below old
    → OnlyFills (drop below old) (drop below new) → OnlyFills old new
fills_past below old new within same fills = record {
  count = (let a = fills.count in
      let b = length-drop below old in
      let c = length-drop below new in
      let d = ap length same in
      let e = length-take below old in
      let f = length-take below new in
      omega (arith, a, b, c, d, e, f, within));
  kept = λ k some. ⊎_elim
      (λ (less : k < below). front k less)
      (λ (from : below ≤ k).
      let at = back old k from in
      back new k from ∙ fills.kept (k - below) (λ none. some (at ∙ none)) ∙ sym at)
      (cases_lt k below);
  filled = λ k none. ⊎_elim
      (λ (less : k < below). inl (front k less ∙ none))
      (λ (from : below ≤ k). ⊎_elim
      (λ still. inl (back new k from ∙ still))
      (λ word. inr (word.0, back new k from ∙ word.1))
      (fills.filled (k - below) (sym (back old k from) ∙ none)))
      (cases_lt k below);
}
  where
    front : (k : ℕ) → k < below → get_or new k Empty ≡ get_or old k Empty
    front k less =
        sym (get_or-take below new k Empty less) ∙ ap (λ (xs : List Slot). get_or xs k Empty) same ∙ get_or-take below old k Empty less

    back : (xs : List Slot) (k : ℕ) → below ≤ k → get_or xs k Empty ≡ get_or (drop below xs) (k - below) Empty
    back xs k from =
        let e : k ≡ below + (k - below) = omega (arith, from) in
        ap (λ (n : ℕ). get_or xs n Empty) e ∙ sym (get_or-drop below xs (k - below) Empty)

-- The position that a look fills in is a slot of the line that had no word.
filled_slot :
    (old new : ℕ → Option Word) (line : Line) (answer : Look) → IsLook old new (equation_of line) answer → (p : ℕ)
    → old p ≡ None → IsSome (new p) → Contains (slots (equation_of line)) p
filled_slot old new line (Several first second) look p none some =
    absurd (none_has_no_value (old p) none (subst (λ (f : ℕ → Option Word). IsSome (f p)) look.1 some))
filled_slot old new line (Complete sound) look p none some =
    absurd (none_has_no_value (old p) none (subst (λ (f : ℕ → Option Word). IsSome (f p)) look.2 some))
filled_slot old new line (Found position media) look p none some = ⊎_elim
    (λ (same : p ≡ position). subst (λ (q : ℕ). Contains (slots (equation_of line)) q) (sym same) look.0.0)
    (λ differs.
    let step : Step = record { equation = equation_of line; position = position } in
    let at : new p ≡ old p = ap (λ (f : ℕ → Option Word). f p) look.1 ∙ after_step-other old step p differs in
    absurd (none_has_no_value (old p) none (subst (λ (o : Option Word). IsSome o) at some)))
    (cases_eq p position)

empty_or : (e : Slot) → (e ≡ Empty) ⊎ (e ≢ Empty)
empty_or Empty = inl refl
empty_or (Media word) = inr (λ is. (cc))
empty_or (Solved word) = inr (λ is. (cc))
empty_or (Filled word) = inr (λ is. (cc))

module _
    (mark : ℕ) (line : Line) (old new : List Slot) (answer : Look) (are : AreEntries mark old)
    (lies : LiesIn (buffer_of mark old) line) (r : LooksAt mark line old new answer)
  where
    pub looked_are : AreEntries mark new
    looked_are = record {
      some = omega (arith, are.some, r.fills.count);
      limit = omega (arith, are.limit, r.fills.count);
      below = λ i less. r.below i less ∙ are.below i less;
    }

    pub looked_media : SolvedAreMedia old → SolvedAreMedia new
    looked_media before i word high is =
        ⊎_elim
        (λ none.
        ⊎_elim
        (λ still. let e : Empty ≡ Solved word = sym still ∙ is in absurd (cc))
        (λ filled. let e : Filled filled.0 ≡ Solved word = sym filled.1 ∙ is in absurd (cc))
        (r.fills.filled i none))
        (λ some. before i word high (sym (r.fills.kept i some) ∙ is))
        (empty_or (get_or old i Empty))

    same_at :
        (p : ℕ) → (entry_at mark new p ≡ entry_at mark old p)
        ⊎ ((entry_at mark old p ≡ Empty) × ((word : Word) × (entry_at mark new p ≡ Filled word)))
    same_at p =
        ⊎_elim
        (λ before. inl (entry_at-before mark new p before ∙ sym (entry_at-before mark old p before)))
        (λ from.
        let one = entry_at-buffer mark old p from in
        let two = entry_at-buffer mark new p from in
        ⊎_elim
        (λ none.
        ⊎_elim
        (λ still. inl (two ∙ still ∙ sym none ∙ sym one))
        (λ filled. inr (one ∙ none, (filled.0, two ∙ filled.1)))
        (r.fills.filled (p + 100 - mark) none))
        (λ some. inl (two ∙ r.fills.kept (p + 100 - mark) some ∙ sym one))
        (empty_or (get_or old (p + 100 - mark) Empty)))
        (cases_lt (p + 100) mark)

    same_before : (p : ℕ) → p < mark → entry_at mark new p ≡ entry_at mark old p
    same_before p before =
        ⊎_elim
        (λ same. same)
        (λ filled.
        let none : words_of mark old p ≡ None = ap word_in filled.0 in
        let some : IsSome (words_of mark new p) = some_along _ _ (sym (ap word_in filled.1.1)) refl in
        let listed = filled_slot (words_of mark old) (words_of mark new) line answer r.look p none some in
        let had : IsSome (words_of mark old p) =
        some_along _ _ (get-kept mark old p ∙ if-less p mark _ None before) (lies.based p listed before) in
        absurd (none_has_no_value (words_of mark old p) none had))
        (same_at p)

    same_told :
        (tell : Slot → Option Word) → tell Empty ≡ None → ((word : Word) → tell (Filled word) ≡ None) → (p : ℕ)
        → tell (entry_at mark new p) ≡ tell (entry_at mark old p)
    same_told tell empty filled p =
        ⊎_elim
        (λ same. ap tell same)
        (λ was. ap tell was.1.1 ∙ filled was.1.0 ∙ sym (ap tell was.0 ∙ empty))
        (same_at p)

    same_ahead :
        (tell : Slot → Option Word) → tell Empty ≡ None → ((word : Word) → tell (Filled word) ≡ None) → (p : ℕ)
        → (if nat_lt p mark then None else tell (entry_at mark new p)) ≡ (if nat_lt p mark then None else tell (entry_at mark old p))
    same_ahead tell empty filled p = ap (λ (o : Option Word). cond (nat_lt p mark) None o) (same_told tell empty filled p)

    pub looked_buffer : buffer_of mark new ≡ record (buffer_of mark old) { cached = (buffer_of mark new).cached }
    looked_buffer =
        same_buffer (buffer_of mark new) (record (buffer_of mark old) { cached = (buffer_of mark new).cached }) refl
        (ap (λ n. n - 100) r.fills.count)
        (same_kept mark old new same_before)
        (λ p. get-media mark new p ∙ same_ahead received_in refl (λ _. refl) p ∙ sym (get-media mark old p))
        (λ p. get-solved mark new p ∙ same_ahead solved_in refl (λ _. refl) p ∙ sym (get-solved mark old p))
        (λ p. refl)
        (same_bare mark old new same_before)
        (same_repaired mark old new same_before)

    pub looked_words : IsLook (buffer_words (buffer_of mark old)) (buffer_words (buffer_of mark new)) (equation_of line) answer
    looked_words =
        subst (λ (f : ℕ → Option Word). IsLook f (buffer_words (buffer_of mark new)) (equation_of line) answer)
        (sym (buffer_words-of mark old))
        (subst (λ (f : ℕ → Option Word). IsLook (words_of mark old) f (equation_of line) answer) (sym (buffer_words-of mark new)) r.look)
