-- Rows of entries: reads, writes and what they stand for.
use Rattle.std.proofs.Common.{◌≡◌, ℕ, ◌+◌, ◌-◌, ◌^◌, ◌<◌, ◌≤◌, List, ◌++◌, length, get_or, set, Option, None, refl, sym, ap, ◌∙◌, arith}
use Rattle.std.proofs.lemmas.List.{get_or_default, get_or_append_left, get_or-append_right, set-append_left, set-append_right, length-append}
use Rattle.std.proofs.lemmas.Bool.{le-ltb, lt-ltb}
use Rattle.fg_words.specs.declared.Word.{Word}
use Rattle.fg_peel.specs.declared.Slot.{Slot}
use Rattle.fg_peel.specs.declared.Slot.TheVariants.{Empty, Media, Solved, Filled}
use Rattle.fg_peel.specs.declared.Line.{Line}
use Rattle.fg_peel.specs.Equation.{slots}
use Rattle.fg_peel.specs.Slots.{with_word, word_in, told_from, words_from, equation_of, FitsFrom}
use Rattle.fg_shape.proofs.ShapeLemmas.{length-slots_of, get_or-slots_of}
use Rattle.std.proofs.lemmas.List.Elements.{Contains-get_or}

-- one element is changed by a later one, where the list was cut between them
changes_by_later :
    {X : Type 0} (f : X → X → X) (old front back : List X) (target other : ℕ) (new t o d : X) → old ≡ front ++ back
    → length front ≡ other → target < other → other < length old → new ≡ f (get_or front target t) (get_or back 0 o)
    → set front target new ++ back ≡ set old target (f (get_or old target d) (get_or old other d))
changes_by_later {X} f old front back target other new t o d cut size below within is =
    let inside : target < length front = omega arith in
    let whole : length old ≡ length front + length back = ap length cut ∙ length-append front back in
    let some : 0 < length back = omega arith in
    let up : other ≤ other = omega arith in
    let none : other - other ≡ 0 = omega arith in
    let one : get_or front target t ≡ get_or old target d =
    get_or_default front target t d inside ∙ sym (get_or_append_left front back d target inside) ∙ ap (λ (xs : List X). get_or xs target d) (sym cut) in
    let two : get_or back 0 o ≡ get_or old other d =
    get_or_default back 0 o d some ∙ ap (λ k. get_or back k d) (sym none) ∙ sym (get_or-append_right front back other other d size up) ∙ ap (λ (xs : List X). get_or xs other d) (sym cut) in
    let value : new ≡ f (get_or old target d) (get_or old other d) = is ∙ ap (λ (x : X). f x (get_or back 0 o)) one ∙ ap (f (get_or old target d)) two in
    sym (set-append_left front back target new inside) ∙ ap (λ (xs : List X). set xs target new) (sym cut) ∙ ap (set old target) value

-- the same by an earlier one
changes_by_earlier :
    {X : Type 0} (f : X → X → X) (old front back : List X) (target other : ℕ) (new t o d : X) → old ≡ front ++ back
    → length front ≡ target → other < target → target < length old → new ≡ f (get_or back 0 t) (get_or front other o)
    → front ++ set back 0 new ≡ set old target (f (get_or old target d) (get_or old other d))
changes_by_earlier {X} f old front back target other new t o d cut size below within is =
    let inside : other < length front = omega arith in
    let whole : length old ≡ length front + length back = ap length cut ∙ length-append front back in
    let some : 0 < length back = omega arith in
    let up : target ≤ target = omega arith in
    let none : target - target ≡ 0 = omega arith in
    let one : get_or back 0 t ≡ get_or old target d =
    get_or_default back 0 t d some ∙ ap (λ k. get_or back k d) (sym none) ∙ sym (get_or-append_right front back target target d size up) ∙ ap (λ (xs : List X). get_or xs target d) (sym cut) in
    let two : get_or front other o ≡ get_or old other d =
    get_or_default front other o d inside ∙ sym (get_or_append_left front back d other inside) ∙ ap (λ (xs : List X). get_or xs other d) (sym cut) in
    let value : new ≡ f (get_or old target d) (get_or old other d) = is ∙ ap (λ (x : X). f x (get_or front other o)) one ∙ ap (f (get_or old target d)) two in
    ap (λ k. front ++ set back k new) (sym none) ∙ sym (set-append_right front back target target new size up) ∙ ap (λ (xs : List X). set xs target new) (sym cut) ∙ ap (set old target) value

-- one entry gains the word of a later one
pub adds_later :
    (old front back : List Slot) (target other : ℕ) (new t o : Slot) → old ≡ front ++ back → length front ≡ other → target < other
    → other < length old → new ≡ with_word (get_or front target t) (word_in (get_or back 0 o))
    → set front target new ++ back ≡ set old target (with_word (get_or old target Empty) (word_in (get_or old other Empty)))
adds_later old front back target other new t o = changes_by_later (λ x y. with_word x (word_in y)) old front back target other new t o Empty

-- one entry gains the word of an earlier one
pub adds_earlier :
    (old front back : List Slot) (target other : ℕ) (new t o : Slot) → old ≡ front ++ back → length front ≡ target → other < target
    → target < length old → new ≡ with_word (get_or back 0 t) (word_in (get_or front other o))
    → front ++ set back 0 new ≡ set old target (with_word (get_or old target Empty) (word_in (get_or old other Empty)))
adds_earlier old front back target other new t o = changes_by_earlier (λ x y. with_word x (word_in y)) old front back target other new t o Empty

-- what is told of a position that is not below the first
pub told_from-entry :
    (tell : Slot → Option Word) (start : ℕ) (entries : List Slot) (position : ℕ) → start ≤ position
    → told_from tell start entries position ≡ tell (get_or entries (position - start) Empty)
told_from-entry tell start entries position from = rw (le-ltb position start from)

-- nothing is told of a position below the first
pub told_from-below :
    (tell : Slot → Option Word) (start : ℕ) (entries : List Slot) (position : ℕ) → position < start
    → told_from tell start entries position ≡ None
told_from-below tell start entries position below = rw (lt-ltb position start below)

-- a line's base and slots lie among the entries' positions
pub fits_slot :
    (start count : ℕ) (line : Line) (j : ℕ) → FitsFrom start count line → j < line.shape.na
    → (start ≤ get_or (slots (equation_of line)) j 0) × (get_or (slots (equation_of line)) j 0 < start + count)
fits_slot start count line j fits below =
    fits.within (get_or (slots (equation_of line)) j 0)
    (Contains-get_or (slots (equation_of line)) j 0 (omega (arith, below, length-slots_of line.base line.shape.offset line.shape.na)))

pub fits_base : (start count : ℕ) (line : Line) → FitsFrom start count line → start + count ≤ 2 ^ 62 → line.base ≤ 2 ^ 62
fits_base start count line fits limit =
    let first = fits_slot start count line 0 fits fits.shape.some_slot in
    omega (arith, first.1, get_or-slots_of line.base line.shape.offset line.shape.na 0 0 fits.shape.some_slot)

-- an entry without a word is empty
no_word_empty : (entry : Slot) → word_in entry ≡ None → entry ≡ Empty
no_word_empty Empty none = refl
no_word_empty (Media word) none = absurd (cc)
no_word_empty (Solved word) none = absurd (cc)
no_word_empty (Filled word) none = absurd (cc)

pub missing_is_empty :
    (start : ℕ) (entries : List Slot) (position : ℕ) → start ≤ position → words_from start entries position ≡ None
    → get_or entries (position - start) Empty ≡ Empty
missing_is_empty start entries position from none =
    no_word_empty (get_or entries (position - start) Empty) (sym (told_from-entry word_in start entries position from) ∙ none)
