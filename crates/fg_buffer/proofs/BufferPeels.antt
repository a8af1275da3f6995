-- A span of a buffer's entries, from the first position on.
use Rattle.std.proofs.Common.{◌≡◌, ◌+◌, ◌-◌, ◌<◌, ◌≤◌, ℕ, ℤ, pos, negsuc, List, length, get_or, Option, None, refl, sym, ap, ◌∙◌, ⊎_elim, arith}
use Rattle.std.proofs.Math.Path.{fun_ext}
use Rattle.std.proofs.lemmas.Bool.{cases_lt}
use Rattle.std.proofs.lemmas.List.{length-drop, get_or-drop, get_or-take}
use Rattle.std.specs.List.{Contains}
use Rattle.fg_words.specs.declared.Word.{Word}
use Rattle.fg_peel.specs.declared.Slot.{Slot}
use Rattle.fg_peel.specs.declared.Slot.TheVariants.{Empty}
use Rattle.fg_peel.specs.declared.Line.{Line}
use Rattle.fg_peel.specs.Equation.{slots}
use Rattle.fg_peel.specs.Slots.{word_in, told_from, first_position, from_first, before_first, words_at, equation_of, FitsFrom}
use Rattle.fg_buffer.specs.PlayoutBuffer.{buffer_words, LiesIn}
use Rattle.fg_buffer.specs.BufferEntries.{entry_at, words_of, buffer_of, AreEntries}
use Rattle.fg_buffer.proofs.Choices.{if-less, if-not_less}
use Rattle.fg_buffer.proofs.BufferViews.{entry_at-buffer, entry_at-before, get-kept, buffer_words-entry, some_along, kept_lies}

-- The first entry stands for the position 100 before the mark.
abbrev pub IsLow : ℕ → ℤ → Type 0
IsLow mark (pos n) = n + 100 ≡ mark
IsLow mark (negsuc n) = mark + (n + 1) ≡ 100

-- what entries tell at a position
told :
    (tell : Slot → Option Word) (mark : ℕ) (low : ℤ) (entries : List Slot) → tell Empty ≡ None → IsLow mark low
    → (q : ℕ) → told_from tell (first_position low) (from_first low entries) q ≡ tell (entry_at mark entries q)
told tell mark (pos n) entries empty is q =
    ⊎_elim
    (λ before.
    if-less q n None _ before ∙ sym (ap tell (entry_at-before mark entries q (omega (arith, is))) ∙ empty))
    (λ from.
    let index : q - n ≡ q + 100 - mark = omega (arith, is) in
    let up : mark ≤ q + 100 = omega (arith, is) in
    if-not_less q n None _ from ∙ ap (λ k. tell (get_or entries k Empty)) index
    ∙ ap tell (sym (entry_at-buffer mark entries q up)))
    (cases_lt q n)
told tell mark (negsuc n) entries empty is q =
    let index : n + 1 + (q - 0) ≡ q + 100 - mark = omega (arith, is) in
    let up : mark ≤ q + 100 = omega (arith, is) in
    if-not_less q 0 None _ (omega arith) ∙ ap tell (get_or-drop (n + 1) entries (q - 0) Empty)
    ∙ ap (λ k. tell (get_or entries k Empty)) index ∙ ap tell (sym (entry_at-buffer mark entries q up))

pub words_low :
    (mark : ℕ) (low : ℤ) (entries : List Slot) → IsLow mark low → words_at low entries ≡ words_of mark entries
words_low mark low entries is = fun_ext (λ q. told word_in mark low entries refl is q)

-- a line fits
starts :
    (mark : ℕ) (low : ℤ) (p : ℕ) → IsLow mark low → mark ≤ p + 100 → first_position low ≤ p
starts mark (pos n) p is from = omega (arith, is)
starts mark (negsuc n) p is from = omega arith

ends :
    (mark : ℕ) (low : ℤ) (entries : List Slot) (p : ℕ) → IsLow mark low → 100 ≤ length entries
    → p < mark + (length entries - 100) → p < first_position low + length (from_first low entries)
ends mark (pos n) entries p is some near = omega (arith, is)
ends mark (negsuc n) entries p is some near = omega (arith, is, length-drop (n + 1) entries)

from_lies :
    (mark : ℕ) (entries : List Slot) (line : Line) → LiesIn (buffer_of mark entries) line → (p : ℕ)
    → Contains (slots (equation_of line)) p → mark ≤ p + 100
from_lies mark entries line lies p in_line =
    ⊎_elim
    (λ before. (kept_lies mark entries p (some_along _ _ (get-kept mark entries p) (lies.based p in_line before))).1)
    (λ from. omega (arith, from))
    (cases_lt p mark)

pub fits_line :
    (mark : ℕ) (low : ℤ) (entries : List Slot) (line : Line) → IsLow mark low → AreEntries mark entries
    → LiesIn (buffer_of mark entries) line → FitsFrom (first_position low) (length (from_first low entries)) line
fits_line mark low entries line is are lies = record {
  shape = lies.shape;
  within = λ p in_line. (
    starts mark low p is (from_lies mark entries line lies p in_line),
    ends mark low entries p is are.some (lies.near p in_line),
  );
}

pub below_low :
    (mark : ℕ) (low : ℤ) (old new : List Slot) → IsLow mark low → before_first low new ≡ before_first low old → (i : ℕ)
    → mark + i < 100 → get_or new i Empty ≡ get_or old i Empty
below_low mark (pos n) old new is same i less = absurd (omega (arith, is))
below_low mark (negsuc n) old new is same i less =
    let early : i < n + 1 = omega (arith, is) in
    sym (get_or-take (n + 1) new i Empty early) ∙ ap (λ (xs : List Slot). get_or xs i Empty) same
    ∙ get_or-take (n + 1) old i Empty early

-- The buffer's words are those of the entries.
pub buffer_words-of : (mark : ℕ) (entries : List Slot) → buffer_words (buffer_of mark entries) ≡ words_of mark entries
buffer_words-of mark entries = fun_ext (λ q. buffer_words-entry mark entries q)
