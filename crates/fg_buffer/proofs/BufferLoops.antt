-- Steps of the loops over a buffer's entries.
use Rattle.std.proofs.Common.{◌≡◌, ◌+◌, ◌-◌, ◌<◌, ◌≤◌, ℕ, IsSome, List, length, get_or, Option, None, Contains, ap, ◌∙◌, ⊎_elim, subst, arith}
use Rattle.std.proofs.lemmas.Bool.{cases_eq}
use Rattle.std.proofs.lemmas.List.{get_or_default, get_or_past}
use Rattle.fg_words.specs.declared.Word.{Word}
use Rattle.fg_peel.specs.declared.Slot.{Slot}
use Rattle.fg_peel.specs.declared.Slot.TheVariants.{Empty}
use Rattle.fg_peel.specs.Slots.{word_in}
use Rattle.fg_buffer.specs.BufferEntries.{HasNoWordFrom, IsLastWord}

-- the last entry with a word
pub no_word_past : (entries : List Slot) → HasNoWordFrom entries (length entries)
no_word_past entries k from = ap word_in (get_or_past entries k Empty from)

pub no_word_at :
    (entries : List Slot) (i : ℕ) → word_in (get_or entries i Empty) ≡ None → HasNoWordFrom entries (i + 1)
    → HasNoWordFrom entries i
no_word_at entries i here later k from =
    ⊎_elim (λ same. ap (λ j. word_in (get_or entries j Empty)) same ∙ here) (λ other. later k (omega (arith, other))) (cases_eq k i)

pub last_word_at :
    (entries : List Slot) (i : ℕ) → 100 < i → i ≤ length entries → IsSome (word_in (get_or entries (i - 1) Empty))
    → HasNoWordFrom entries i → IsLastWord entries (i - 1)
last_word_at entries i some within word later = record {
  ahead = omega arith;
  within = omega arith;
  word = word;
  none_later = λ k from. later k (omega (arith, from, some));
}

-- all slots have words, where each numbered one has
pub all_have_words :
    (words : ℕ → Option Word) (xs : List ℕ) (n : ℕ) → length xs ≡ n
    → ((k : ℕ) → k < n → IsSome (words (get_or xs k 0))) → (p : ℕ) → Contains xs p → IsSome (words p)
all_have_words words xs n size each p c =
    let same : get_or xs c.0 0 ≡ p = get_or_default xs c.0 0 p c.1 ∙ c.2 in
    let P : ℕ → Type 0 = λ q. IsSome (words q) in
    let less : c.0 < n = omega (arith, c.1, size) in
    subst P same (each c.0 less)

pub one_more_has :
    (words : ℕ → Option Word) (xs : List ℕ) (j : ℕ) → IsSome (words (get_or xs j 0))
    → ((k : ℕ) → k < j → IsSome (words (get_or xs k 0))) → (k : ℕ) → k < j + 1 → IsSome (words (get_or xs k 0))
one_more_has words xs j has below k less =
    ⊎_elim (λ same. rw same has) (λ other. below k (omega (arith, other))) (cases_eq k j)
