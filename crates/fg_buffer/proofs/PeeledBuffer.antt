-- A look at a buffer's entries from the first position on.
use Rattle.std.proofs.Common.{◌≡◌, ◌+◌, ◌-◌, ◌<◌, ◌≤◌, ℕ, ℤ, pos, negsuc, Option, List, ◌++◌, length, take, drop, sym, ap, ◌∙◌, ⊎_elim, subst, arith}
use Rattle.std.proofs.lemmas.Bool.{cases_lt}
use Rattle.std.proofs.lemmas.List.{take-append-drop, take_all, length-take}
use Rattle.std.proofs.Math.Seq.{drop-append_seam}
use Rattle.std.proofs.lemmas.List.{take-append-le}
use Rattle.fg_peel.specs.declared.Line.{Line}
use Rattle.fg_peel.specs.declared.Slot.{Slot}
use Rattle.fg_peel.specs.Slots.{first_position, from_first, before_first, words_from, equation_of, FitsFrom, OnlyFills}
use Rattle.fg_words.specs.declared.Word.{Word}
use Rattle.fg_peel.specs.declared.looks.Look.{Look}
use Rattle.fg_peel.specs.Look.{IsLook}
use Rattle.fg_buffer.proofs.BufferLooks.{fills_past}
use Rattle.fg_buffer.specs.PlayoutBuffer.{LiesIn}
use Rattle.fg_buffer.specs.BufferEntries.{buffer_of, words_of, AreEntries, LooksAt}
use Rattle.fg_buffer.proofs.BufferPeels.{IsLow, words_low, fits_line, below_low}

-- Entries that were peeled behind a reference, past the first ones, stand where they stood.
module _
    (below below' name name' : ℕ) (old new final : List Slot) (within : below ≤ length old)
    (rest : ◌≡◌ {A = ℕ × List Slot} (name', take below' new) (name, take below old)) (given : name ≡ name' → final ≡ new) where
  is_final : final ≡ new
  is_final = given (sym (ap (λ (p : ℕ × List Slot). p.0) rest))

  joined : final ≡ take below old ++ drop below' new
  joined =
      is_final ∙ sym (take-append-drop below' new)
      ∙ ap (λ (s : List Slot). s ++ drop below' new) (ap (λ (p : ℕ × List Slot). p.1) rest)

  front_long : length (take below old) ≡ below
  front_long = omega (arith, length-take below old, within)

  pub same_front : take below final ≡ take below old
  same_front =
      ap (take below) joined ∙ take-append-le below (take below old) (drop below' new) (omega (arith, front_long))
      ∙ take_all below (take below old) (omega (arith, front_long))

  pub same_rest : drop below final ≡ drop below' new
  same_rest =
      ap (drop below) joined ∙ ap (λ (k : ℕ). drop k (take below old ++ drop below' new)) (sym front_long)
      ∙ drop-append_seam (take below old) (drop below' new)

-- The position of the first entry, and the first position that has one.
pub record Starts (mark start below : ℕ) (low : ℤ) : Type 0 where
  pub is : IsLow mark low
  pub first : first_position low ≡ start
  pub from : (xs : List Slot) → from_first low xs ≡ drop below xs
  pub before : (xs : List Slot) → before_first low xs ≡ take below xs

module _ (mark start below : ℕ) (is : start ≡ mark - 100) (few : below ≡ 100 - mark) where
  starts : (low : ℤ) × Starts mark start below low
  starts = ⊎_elim
      (λ (less : mark < 100).
      let some : 99 - mark + 1 ≡ below = omega (arith, few, less) in (
        negsuc (99 - mark),
        record {
          is = omega (arith, less);
          first = omega (arith, is, less);
          from = λ xs. ap (λ (k : ℕ). drop k xs) some;
          before = λ xs. ap (λ (k : ℕ). take k xs) some;
        },
      ))
      (λ (more : 100 ≤ mark).
      let none : 0 ≡ below = omega (arith, few, more) in (
        pos (mark - 100),
        record {
          is = omega (arith, more);
          first = sym is;
          from = λ xs. ap (λ (k : ℕ). drop k xs) none;
          before = λ xs. ap (λ (k : ℕ). take k xs) none;
        },
      ))
      (cases_lt mark 100)

  module _ (old : List Slot) (line : Line) (are : AreEntries mark old) (lies : LiesIn (buffer_of mark old) line) where
    pub line_placed : FitsFrom start (length (drop below old)) line
    line_placed =
        let low = starts.0 in
        subst (λ (p : ℕ). FitsFrom p (length (drop below old)) line) starts.1.first
        (subst (λ (xs : List Slot). FitsFrom (first_position low) (length xs) line) (starts.1.from old)
        (fits_line mark low old line starts.1.is are lies))

    -- What a look at the entries past the first ones is to all of them.
    pub placed_looks :
        (new : List Slot) (answer : Look) → take below new ≡ take below old → OnlyFills (drop below old) (drop below new)
        → IsLook (words_from start (drop below old)) (words_from start (drop below new)) (equation_of line) answer
        → LooksAt mark line old new answer
    placed_looks new answer same fills look =
        let low = starts.0 in
        let words : (xs : List Slot) → words_from start (drop below xs) ≡ words_of mark xs =
        λ xs. sym (ap (λ (p : ℕ). words_from p (drop below xs)) starts.1.first)
        ∙ sym (ap (λ (ys : List Slot). words_from (first_position low) ys) (starts.1.from xs)) ∙ words_low mark low xs starts.1.is in
        record {
          look = subst (λ (f : ℕ → Option Word). IsLook f (words_of mark new) (equation_of line) answer) (words old)
              (subst (λ (f : ℕ → Option Word). IsLook (words_from start (drop below old)) f (equation_of line) answer) (words new) look);
          fills = fills_past below old new (omega (arith, few, are.some)) same fills;
          below = below_low mark low old new starts.1.is (starts.1.before new ∙ same ∙ sym (starts.1.before old));
        }
