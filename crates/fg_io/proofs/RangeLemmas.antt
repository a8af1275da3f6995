-- Ranges of a buffer whose front stays.
use Rattle.std.proofs.Common.{◌≡◌, ℕ, ◌+◌, ◌-◌, ◌≤◌, List, [], ◌++◌, take, drop, Option, sym, ap, ◌∙◌, arith, subst, append-nil}
use Rattle.std.specs.Prelude.{slice_range}
use Rattle.std.proofs.Math.Seq.{take-add}
use Rattle.std.proofs.lemmas.List.{drop-drop, take-take}
use Rattle.std.proofs.lemmas.Slice.{between_is}
use Rattle.fg_io.specs.InputBuffer.{TakesMore}
use Rattle.fg_io.specs.Source.{Gives}
use Rattle.fg_io.proofs.SourceLemmas.{Gives-nil}

-- a range within a front that stays
pub same_range : (old new : List ℕ) (a b to : ℕ) → take to new ≡ take to old → b ≤ to → slice_range new a b ≡ slice_range old a b
same_range old new a b to same within =
    let front : take b new ≡ take b old = sym (take-take b to new within) ∙ ap (take b) same ∙ take-take b to old within in
    between_is new a b ∙ ap (drop a) front ∙ sym (between_is old a b)

-- a range and what follows it
pub range_more : (xs : List ℕ) (a to n : ℕ) → a ≤ to → slice_range xs a (to + n) ≡ slice_range xs a to ++ slice_range xs to (to + n)
range_more xs a to n order =
    let whole : (to + n) - a ≡ (to - a) + n = omega arith in
    let rest : (to + n) - to ≡ n = omega arith in
    let place : a + (to - a) ≡ to = omega arith in
    ap (λ m. take m (drop a xs)) whole ∙ take-add (to - a) n (drop a xs)
    ∙ ap (λ t. take (to - a) (drop a xs) ++ take n t) (drop-drop (to - a) a xs ∙ ap (λ m. drop m xs) place)
    ∙ ap (λ m. take (to - a) (drop a xs) ++ take m (drop to xs)) (sym rest)

-- a range without its first part
pub range_from : (xs : List ℕ) (a to n : ℕ) → slice_range xs (a + n) to ≡ drop n (slice_range xs a to)
range_from xs a to n =
    between_is xs (a + n) to ∙ sym (drop-drop n a (take to xs)) ∙ ap (drop n) (sym (between_is xs a to))

-- a range is held whose front stayed, and behind it what was given
pub held_more : (old new held : List ℕ) (a to n : ℕ) (left rest : Option (List ℕ)) → a ≤ to → take to new ≡ take to old → held ≡ slice_range old a to
    → Gives left (slice_range new to (to + n)) rest → TakesMore held left (slice_range new a (to + n)) rest
held_more old new held a to n left rest order same was gives = record {
  given = slice_range new to (to + n);
  gives = gives;
  grown = range_more new a to n order ∙ ap (λ t. t ++ slice_range new to (to + n)) (same_range old new a to to same (omega arith) ∙ sym was);
}

-- nothing was given
pub held_same : (old new held : List ℕ) (a to : ℕ) (left rest : Option (List ℕ)) → take to new ≡ take to old → held ≡ slice_range old a to → rest ≡ left
    → TakesMore held left (slice_range new a to) rest
held_same old new held a to left rest same was unread = record {
  given = [];
  gives = subst (Gives left []) (sym unread) (Gives-nil left);
  grown = same_range old new a to to same (omega arith) ∙ sym was ∙ sym (append-nil held);
}
