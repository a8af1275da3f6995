-- From which entry on none has a word.
use Rattle.std.proofs.Common.{◌≡◌, ◌+◌, ◌<◌, ◌≤◌, ℕ, Bool, true, false, List, length, get_or, set, Option, Some, None, refl, sym, ap, ◌∙◌, ⊎_elim, subst, arith}
use Rattle.std.proofs.lemmas.Bool.{cases_eq}
use Rattle.std.proofs.lemmas.List.{get_or-set_same, get_or-set_other, set-set}
use Rattle.fg_peel.specs.declared.Slot.{Slot}
use Rattle.fg_peel.specs.declared.Slot.TheVariants.{Empty, Media, Solved, Filled}
use Rattle.fg_words.specs.declared.Word.{Word}
use Rattle.fg_peel.specs.Slots.{word_in, with_word}
use Rattle.fg_buffer.specs.BufferEntries.{slack, live_entries, AreStored, HasNoWordFrom, left_of}
use Rattle.fg_buffer.proofs.BufferStored.{stored_at, stored_set, live_set, stored_moved, live_moved}

-- An entry is put.
pub none_after_put :
    (old : List Slot) (index : ℕ) (entry : Slot) (end end' : ℕ) → HasNoWordFrom old end → end ≤ end' → index < end'
    → HasNoWordFrom (set old index entry) end'
none_after_put old index entry end end' none more past k from =
    ap word_in (get_or-set_other old index k entry Empty (omega (arith, from, past)))
    ∙ none k (omega (arith, from, more))

-- An entry that had no word still has none.
pub none_kept :
    (old : List Slot) (index : ℕ) (entry : Slot) (end : ℕ) → index < length old
    → (word_in (get_or old index Empty) ≡ None → word_in entry ≡ None) → HasNoWordFrom old end
    → HasNoWordFrom (set old index entry) end
none_kept old index entry end inside stays none k from =
    ⊎_elim
    (λ same.
    ap (λ (j : ℕ). word_in (get_or (set old index entry) j Empty)) same
    ∙ ap word_in (get_or-set_same old index entry Empty inside)
    ∙ stays (none index (omega (arith, same, from))))
    (λ other. ap word_in (get_or-set_other old index k entry Empty other) ∙ none k from)
    (cases_eq k index)

-- An entry is put where what stood there was taken away.
pub bounded_put :
    (front : ℕ) (old cleared new view : List Slot) (end end' : ℕ)
    → AreStored front old × HasNoWordFrom (live_entries front old) end → (i : ℕ) (entry : Slot) → i < length view
    → live_entries front old ≡ view → cleared ≡ set old (front + i) Empty → new ≡ set cleared (front + i) entry
    → end ≤ end' → i < end' → AreStored front new × HasNoWordFrom (live_entries front new) end'
bounded_put front old cleared new view end end' are i entry within is clear put more past =
    let inside : i < length (live_entries front old) = omega (arith, within, ap (λ (ss : List Slot). length ss) is) in
    let whole : new ≡ set old (front + i) entry =
    put ∙ ap (λ (ss : List Slot). set ss (front + i) entry) clear ∙ set-set old (front + i) Empty entry in (
      subst (AreStored front) (sym whole) (stored_set front old are.0 i entry inside),
      subst (λ (ss : List Slot). HasNoWordFrom ss end')
          (sym (ap (live_entries front) whole ∙ live_set front old are.0 i entry inside))
          (none_after_put (live_entries front old) i entry end end' are.1 more past),
    )

-- An entry is set that has no word, or had one before.
pub bounded_kept :
    (front : ℕ) (old new view : List Slot) (end : ℕ) → AreStored front old × HasNoWordFrom (live_entries front old) end
    → (i : ℕ) (entry : Slot) → i < length view → live_entries front old ≡ view → new ≡ set old (front + i) entry
    → (word_in (get_or old (front + i) Empty) ≡ None → word_in entry ≡ None)
    → AreStored front new × HasNoWordFrom (live_entries front new) end
bounded_kept front old new view end are i entry within is put stays =
    let inside : i < length (live_entries front old) = omega (arith, within, ap (λ (ss : List Slot). length ss) is) in (
      subst (AreStored front) (sym put) (stored_set front old are.0 i entry inside),
      subst (λ (ss : List Slot). HasNoWordFrom ss end)
          (sym (ap (live_entries front) put ∙ live_set front old are.0 i entry inside))
          (none_kept (live_entries front old) i entry end inside
          (λ none. stays (ap word_in (sym (stored_at front old are.0 i)) ∙ none)) are.1),
    )

-- What adding and forgetting leave of an entry without a word.
pub none_with : (entry : Slot) (added : Option Word) → word_in entry ≡ None → word_in (with_word entry added) ≡ None
none_with Empty added none = refl
none_with (Media word) added none = none
none_with (Solved word) added none = none
none_with (Filled word) (Some other) none = grind (arith, none)
none_with (Filled word) None none = none

pub none_left : (solved : Bool) (entry : Slot) → word_in entry ≡ None → word_in (left_of solved entry) ≡ None
none_left solved Empty none = refl
none_left solved (Media word) none = none
none_left true (Solved word) none = refl
none_left false (Solved word) none = none
none_left solved (Filled word) none = refl

-- The first entries are passed.
module _
    (front count : ℕ) (old : List Slot) (end end' : ℕ) (are : AreStored front old × HasNoWordFrom (live_entries front old) end)
    (front' : ℕ) (new : List Slot) (size : length new ≡ length old) (low : front' ≤ slack)
    (moved : (k : ℕ) → get_or new (front' + k) Empty ≡ get_or old (front + count + k) Empty) (less : end ≤ end' + count)
  where
    pub bounded_moved : AreStored front' new × HasNoWordFrom (live_entries front' new) end'
    bounded_moved = (
      stored_moved front count old are.0 front' new size low moved,
      λ k from.
          ap word_in (live_moved front count old are.0 front' new size low moved k)
          ∙ are.1 (k + count) (omega (arith, from, less)),
    )
