-- Rows of entries whose first one may stand for a position below 0.
use Rattle.std.proofs.Common.{◌≡◌, ◌⊎◌, ◌+◌, ◌-◌, ◌<◌, ◌≤◌, ℕ, ℤ, pos, negsuc, true, false, List, [], ◌∷◌, ◌++◌, length, take, drop, get_or, min, inl, inr, refl, sym, ap, ◌∙◌, ⊎_elim, subst, arith}
use Rattle.std.proofs.Math.IntN.{nat_abs}
use Rattle.std.proofs.Math.Seq.{drop-append_seam}
use Rattle.std.proofs.lemmas.Bool.{cases_lt, ltb-true}
use Rattle.std.proofs.lemmas.List.{length-take, length-drop, length-append, drop_all, get_or-drop, get_or-take, get_or_append_left, get_or-append_right, take_all, take-append-le, append-nil}
use Rattle.std.specs.Int.Signed.{lt_z}
use Rattle.slab.specs.Slab.{Slab}
use Rattle.fg_words.specs.declared.Word.{Word}
use Rattle.fg_peel.specs.declared.Line.{Line}
use Rattle.fg_peel.specs.declared.Slot.{Slot}
use Rattle.fg_peel.specs.declared.Slot.TheVariants.{Empty, Filled}
use Rattle.fg_peel.specs.declared.Verdict.{Verdict}
use Rattle.fg_peel.specs.Equation.{Equation, AreAdmissible, AreMedia}
use Rattle.fg_peel.specs.Slots.{first_position, from_first, before_first, words_from, words_at, known_at, recovered_at, equation_of, equations_of, AllFit, AllFitFrom, OnlyFills}
use Rattle.fg_peel.specs.Peels.{Peels, IsPeel}
use Rattle.fg_peel.specs.Recovery.{IsPeelAfter}
use Rattle.fg_peel.proofs.Lines.{line_of_equation}
use Rattle.fg_peel.proofs.Whole.{ends_at_closure, ends_from_known, recovered_told, recovered_since, tells_solution}

-- the rest of a list is what follows the part before it
rest_is : (n below : ℕ) (old new rest : List Slot) → below ≡ min (length old) (n + 1) → new ≡ take below old ++ rest → length rest ≡ length (drop below old) → drop (n + 1) new ≡ rest
rest_is n below old new rest least joined size = ⊎_elim
    (λ short.
    let gone : length rest ≡ 0 = omega (arith, size, length-drop below old, least, short) in
    let all : length new ≡ length (take below old) + length rest = ap length joined ∙ length-append (take below old) rest in
    let few : length new ≤ n + 1 = omega (arith, all, gone, length-take below old, short) in
    drop_all (n + 1) new few ∙ sym (drop_all 0 rest (omega (arith, gone))))
    (λ long.
    let size_front : length (take below old) ≡ n + 1 = omega (arith, length-take below old, least, long) in
    ap (λ k. drop k new) (sym size_front) ∙ ap (drop (length (take below old))) joined ∙ drop-append_seam (take below old) rest)
    (cases_lt (length old) (n + 1))

same_rest : (n below : ℕ) (old : List Slot) → below ≡ min (length old) (n + 1) → drop below old ≡ drop (n + 1) old
same_rest n below old least = ⊎_elim
    (λ short.
    let all : length old ≤ below = omega (arith, least, short) in
    let past : length old ≤ n + 1 = omega (arith, short) in
    drop_all below old all ∙ sym (drop_all (n + 1) old past))
    (λ long. let e : below ≡ n + 1 = omega (arith, least, long) in ap (λ k. drop k old) e)
    (cases_lt (length old) (n + 1))

length-zero : (es : List Slot) → length es ≡ 0 → es ≡ []
length-zero [] e = refl
length-zero (x ∷ es) e = absurd (omega (arith, e))

-- the new entries are those of the front, and then the rest
module _ (below : ℕ) (old new rest : List Slot) (within : below ≤ length old) (joined : new ≡ take below old ++ rest) where
  front-length : length (take below old) ≡ below
  front-length = omega (arith, length-take below old, within)

  read-front : (k : ℕ) → k < below → get_or new k Empty ≡ get_or old k Empty
  read-front k less =
      ap (λ (es : List Slot). get_or es k Empty) joined
      ∙ get_or_append_left (take below old) rest Empty k (omega (arith, front-length, less))
      ∙ get_or-take below old k Empty less

  read-rest : (k : ℕ) → below ≤ k → get_or new k Empty ≡ get_or rest (k - below) Empty
  read-rest k above =
      ap (λ (es : List Slot). get_or es k Empty) joined ∙ get_or-append_right (take below old) rest below k Empty front-length above

  read-old : (k : ℕ) → below ≤ k → get_or (drop below old) (k - below) Empty ≡ get_or old k Empty
  read-old k above =
      let same : below + (k - below) ≡ k = omega (arith, above) in
      get_or-drop below old (k - below) Empty ∙ ap (λ i. get_or old i Empty) same

  fills_rest : OnlyFills (drop below old) rest → OnlyFills old new
  fills_rest fills = record {
    count = omega (arith, ap length joined, length-append (take below old) rest, front-length, fills.count, length-drop below old, within);
    kept = λ k some. ⊎_elim
        (λ less. read-front k less)
        (λ above. read-rest k above ∙ fills.kept (k - below) (λ gone. some (sym (read-old k above) ∙ gone)) ∙ read-old k above)
        (cases_lt k below);
    filled = λ k none. ⊎_elim
        (λ less. inl (read-front k less ∙ none))
        (λ above. filled_rest k above (fills.filled (k - below) (read-old k above ∙ none)))
        (cases_lt k below);
  }
    where
      filled_rest :
          (k : ℕ) → below ≤ k → (get_or rest (k - below) Empty ≡ Empty) ⊎ ((w : Word) × (get_or rest (k - below) Empty ≡ Filled w))
          → (get_or new k Empty ≡ Empty) ⊎ ((w : Word) × (get_or new k Empty ≡ Filled w))
      filled_rest k above (inl still) = inl (read-rest k above ∙ still)
      filled_rest k above (inr now) = inr (now.0, read-rest k above ∙ now.1)

-- entries that stand for no position are left alone
pub fills_after :
    (below : ℕ) (lines : Slab Line) (old new : List Slot) (answer : Verdict) → below ≤ length old → IsPeelAfter below lines old new answer → OnlyFills old new
fills_after below lines old new answer within after = fills_rest below old new after.0 within after.1 after.2.fills

pub same_before :
    (low : ℤ) (below : ℕ) (lines : Slab Line) (old new : List Slot) (answer : Verdict) → below ≡ min (length old) (nat_abs low)
    → IsPeelAfter below lines old new answer → before_first low new ≡ before_first low old
same_before (pos n) below lines old new answer least after = refl
same_before (negsuc n) below lines old new answer least after =
    let rest = after.0 in
    let front = length-take below old in
    let size = length-drop below old in
    ⊎_elim
    (λ short.
    let gone : length rest ≡ 0 = omega (arith, after.2.fills.count, size, least, short) in
    let all : length new ≡ length (take below old) + length rest = ap length after.1 ∙ length-append (take below old) rest in
    let few : length new ≤ n + 1 = omega (arith, all, gone, front, short) in
    let past : length old ≤ n + 1 = omega (arith, short) in
    let whole : length old ≤ below = omega (arith, least, short) in
    take_all (n + 1) new few ∙ after.1 ∙ ap (λ (es : List Slot). take below old ++ es) (length-zero rest gone) ∙ append-nil (take below old)
    ∙ take_all below old whole ∙ sym (take_all (n + 1) old past))
    (λ long.
    let e : below ≡ n + 1 = omega (arith, least, long) in
    let size_front : n + 1 ≤ length (take below old) = omega (arith, front, e, long) in
    ap (take (n + 1)) after.1 ∙ take-append-le (n + 1) (take below old) rest size_front ∙ ap (λ k. take (n + 1) (take k old)) e
    ∙ take_all (n + 1) (take (n + 1) old) (omega (arith, length-take (n + 1) old)))
    (cases_lt (length old) (n + 1))

pub same_before_up : (low : ℤ) (old new : List Slot) → lt_z low (pos 0) ≡ false → before_first low new ≡ before_first low old
same_before_up (pos n) old new above = refl
same_before_up (negsuc n) old new above = absurd (cc)

-- Peeling the entries of positions.
abbrev pub PeelsAt : ℤ → Slab Line → List Slot → List Slot → Verdict → Type 0
PeelsAt low lines old new answer = IsPeel (first_position low) lines (from_first low old) (from_first low new) answer

pub peels_up :
    (low : ℤ) (lines : Slab Line) (old new : List Slot) (answer : Verdict) → lt_z low (pos 0) ≡ false → IsPeel (nat_abs low) lines old new answer
    → PeelsAt low lines old new answer
peels_up (pos n) lines old new answer above peel = peel
peels_up (negsuc n) lines old new answer above peel = absurd (cc)

pub fits_up : (low : ℤ) (lines : Slab Line) (old : List Slot) → lt_z low (pos 0) ≡ false → AllFit low old lines → AllFitFrom (nat_abs low) old lines
fits_up (pos n) lines old above fit = fit
fits_up (negsuc n) lines old above fit = absurd (cc)

pub peels_below :
    (low : ℤ) (below : ℕ) (lines : Slab Line) (old new : List Slot) (answer : Verdict) → lt_z low (pos 0) ≡ true
    → below ≡ min (length old) (nat_abs low) → IsPeelAfter below lines old new answer → PeelsAt low lines old new answer
peels_below (pos n) below lines old new answer under least after = absurd (omega (arith, ltb-true n 0 under))
peels_below (negsuc n) below lines old new answer under least after =
    let least' : below ≡ min (length old) (n + 1) = omega (arith, least) in
    let one = same_rest n below old least' in
    let two = rest_is n below old new after.0 least' after.1 after.2.fills.count in
    let P : List Slot → Type 0 = λ es. IsPeel 0 lines es (drop (n + 1) new) answer in
    let Q : List Slot → Type 0 = λ es. IsPeel 0 lines (drop below old) es answer in
    subst P one (subst Q (sym two) after.2)

pub fits_below :
    (low : ℤ) (below : ℕ) (lines : Slab Line) (old : List Slot) → lt_z low (pos 0) ≡ true → below ≡ min (length old) (nat_abs low)
    → AllFit low old lines → AllFitFrom 0 (drop below old) lines
fits_below (pos n) below lines old under least fit = absurd (omega (arith, ltb-true n 0 under))
fits_below (negsuc n) below lines old under least fit =
    let least' : below ≡ min (length old) (n + 1) = omega (arith, least) in
    let P : List Slot → Type 0 = λ es. AllFitFrom 0 es lines in
    subst P (sym (same_rest n below old least')) fit

-- Words that are media words from the first position on.
pub media_up :
    (low : ℤ) (old : List Slot) → lt_z low (pos 0) ≡ false → AreMedia (words_at low old)
    → AreMedia (words_from (nat_abs low) old)
media_up (pos n) old above media = media
media_up (negsuc n) old above media = absurd (cc)

pub media_below :
    (low : ℤ) (below : ℕ) (old : List Slot) → lt_z low (pos 0) ≡ true → below ≡ min (length old) (nat_abs low)
    → AreMedia (words_at low old) → AreMedia (words_from 0 (drop below old))
media_below (pos n) below old under least media = absurd (omega (arith, ltb-true n 0 under))
media_below (negsuc n) below old under least media =
    let least' : below ≡ min (length old) (n + 1) = omega (arith, least) in
    let P : List Slot → Type 0 = λ es. AreMedia (words_from 0 es) in
    subst P (sym (same_rest n below old least')) media

-- Lines that fit have offsets, so that their slots differ.
admissible_at :
    (low : ℤ) (lines : Slab Line) (old : List Slot) → AllFit low old lines → AreMedia (known_at low old)
    → AreAdmissible (known_at low old) (equations_of lines)
admissible_at low lines old fit media = record {
  known_media = media;
  some_offset = λ equation listed.
      (let line = line_of_equation lines equation listed in
      let P : Equation → Type 0 = λ e. 1 ≤ e.offset in
      let some : P (equation_of line.0) = (fit line.0 line.1).shape.some_offset in
      subst P (sym line.2) some);
}

-- So peeling does all that it does.
pub peels_whole :
    (low : ℤ) (lines : Slab Line) (old new : List Slot) (answer : Verdict) → AllFit low old lines → OnlyFills old new
    → before_first low new ≡ before_first low old → PeelsAt low lines old new answer → Peels low lines old new answer
peels_whole low lines old new answer fit fills below peel = record {
  fills = fills;
  below = below;
  closure = ends_at_closure (equations_of lines) (words_at low old) (words_at low new) peel.peeling;
  peeling = peel.peeling;
  verdict = peel.verdict;
  solution = λ media peeled.
      tells_solution lines (known_at low old) (words_at low new) (recovered_at low new) (admissible_at low lines old fit media)
      (ends_from_known (equations_of lines) (known_at low old) (words_at low old) (words_at low new) peeled peel.peeling)
      (recovered_told (first_position low) (from_first low new))
      (recovered_since (first_position low) (from_first low old) (from_first low new) peel.fills)
      answer peel.verdict;
}
