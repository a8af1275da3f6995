-- Entries are passed of which those past the kept ones are empty.
use Rattle.std.proofs.Common.{◌≡◌, ◌+◌, ◌-◌, ◌<◌, ◌≤◌, ℕ, min, List, length, get_or, None, refl, sym, ap, ◌∙◌, ⊎_elim, arith}
use Rattle.std.proofs.lemmas.Bool.{cases_lt}
use Rattle.std.proofs.lemmas.List.{get_or_past}
use Rattle.std.proofs.lemmas.Option.{none-some}
use Rattle.fg_peel.specs.declared.Slot.{Slot}
use Rattle.fg_peel.specs.declared.Slot.TheVariants.{Empty, Media, Solved, Filled}
use Rattle.fg_peel.specs.Slots.{word_in}
use Rattle.fg_buffer.specs.PlayoutBuffer.{buffer_words}
use Rattle.fg_buffer.specs.BufferEntries.{live_entries, AreStored, HasNoWordFrom, IsEmptyTo, buffer_of}
use Rattle.fg_buffer.proofs.BufferStored.{stored_at}
use Rattle.fg_buffer.proofs.BufferViews.{buffer_words-entry, entry_at-buffer}

-- An entry without a word is empty.
pub empty_entry : (entry : Slot) → word_in entry ≡ None → entry ≡ Empty
empty_entry Empty none = refl
empty_entry (Media word) none = absurd (none-some word (sym none))
empty_entry (Solved word) none = absurd (none-some word (sym none))
empty_entry (Filled word) none = absurd (none-some word (sym none))

-- Past the last entry with a word all slots are empty.
module _ (front end : ℕ) (old view : List Slot) (are : AreStored front old × HasNoWordFrom (live_entries front old) end)
    (is : live_entries front old ≡ view) where
  pub old_at : (k : ℕ) → front ≤ k → get_or old k Empty ≡ get_or (live_entries front old) (k - front) Empty
  old_at k from =
      let at : k ≡ front + (k - front) = omega (arith, from) in
      ap (λ (j : ℕ). get_or old j Empty) at ∙ sym (stored_at front old are.0 (k - front))

  pub none_from : (last : ℕ) → last ≡ min end (length view) → (k : ℕ) → front + last ≤ k → get_or old k Empty ≡ Empty
  none_from last at k from =
      old_at k (omega (arith, from)) ∙ ⊎_elim
      (λ within.
      get_or_past (live_entries front old) (k - front) Empty
      (omega (arith, within, from, at, ap (λ (ss : List Slot). length ss) is)))
      (λ past. empty_entry (get_or (live_entries front old) (k - front) Empty) (are.1 (k - front) past))
      (cases_lt (k - front) end)

-- The kept ones of them are emptied first.
module _
    (front count end kept : ℕ) (old view passed : List Slot) (few : kept ≡ min count 100) (are : AreStored front old × HasNoWordFrom (live_entries front old) end)
    (is : live_entries front old ≡ view) (empty : IsEmptyTo view count)
    (emptied : (k : ℕ) → front ≤ k → k < front + kept → get_or passed k Empty ≡ Empty)
    (above : (k : ℕ) → front + kept ≤ k → get_or passed k Empty ≡ get_or old k Empty)
  where
    pub all_emptied : (k : ℕ) → front ≤ k → k < front + count → get_or passed k Empty ≡ Empty
    all_emptied k from below = ⊎_elim
        (λ before. emptied k from before)
        (λ rest.
        above k rest ∙ old_at front end old view are is k from ∙ ap (λ (ss : List Slot). get_or ss (k - front) Empty) is
        ∙ empty_entry (get_or view (k - front) Empty) (empty (k - front) (omega (arith, rest, below, few)) (omega (arith, from, below))))
        (cases_lt k (front + kept))

    pub none_past : (last : ℕ) → last ≡ min end (length view) → (k : ℕ) → front + last ≤ k → get_or passed k Empty ≡ Empty
    none_past last at k from = ⊎_elim
        (λ before. emptied k (omega (arith, from)) before)
        (λ rest.
        above k rest ∙ none_from front end old view are is last at k from)
        (cases_lt k (front + kept))

    pub all_moved :
        (new : List Slot) → ((k : ℕ) → front ≤ k → get_or new k Empty ≡ get_or passed (k + count) Empty)
        → (j : ℕ) → get_or new (front + j) Empty ≡ get_or old (front + count + j) Empty
    all_moved new moved j =
        let at : front + j + count ≡ front + count + j = omega arith in
        moved (front + j) (omega arith) ∙ above (front + j + count) (omega (arith, few)) ∙ ap (λ (k : ℕ). get_or old k Empty) at

-- Of a buffer's positions from the mark on those have no word whose entries have none.
module _ (mark : ℕ) (entries : List Slot) where
  pub empty_positions :
      (end : ℕ) → IsEmptyTo entries end → (position : ℕ) → mark ≤ position → position + 100 < mark + end
      → buffer_words (buffer_of mark entries) position ≡ None
  empty_positions end empty position from below =
      buffer_words-entry mark entries position ∙ ap word_in (entry_at-buffer mark entries position (omega (arith, from)))
      ∙ empty (position + 100 - mark) (omega (arith, from)) (omega (arith, below, from))

  pub empty_entries :
      (count end : ℕ) → end ≤ count → ((position : ℕ) → mark ≤ position → position < mark + count → buffer_words (buffer_of mark entries) position ≡ None)
      → IsEmptyTo entries end
  empty_entries count end most none i from below =
      let p : ℕ = mark + (i - 100) in
      let at : p + 100 - mark ≡ i = omega (arith, from) in
      sym (ap (λ (j : ℕ). word_in (get_or entries j Empty)) at)
      ∙ sym (ap word_in (entry_at-buffer mark entries p (omega arith)))
      ∙ sym (buffer_words-entry mark entries p)
      ∙ none p (omega arith) (omega (arith, from, below, most))

-- All entries are passed where there are no more than that.
pub moved_past :
    (count passed : ℕ) (old new : List Slot) → passed ≡ min count (length old)
    → ((k : ℕ) → get_or new k Empty ≡ get_or old (k + passed) Empty)
    → (k : ℕ) → get_or new k Empty ≡ get_or old (k + count) Empty
moved_past count passed old new is moved k = ⊎_elim
    (λ less.
    let same : passed ≡ count = omega (arith, is, less) in
    moved k ∙ ap (λ (n : ℕ). get_or old (k + n) Empty) same)
    (λ most.
    moved k ∙ get_or_past old (k + passed) Empty (omega (arith, is, most))
    ∙ sym (get_or_past old (k + count) Empty (omega (arith, most))))
    (cases_lt count (length old))
