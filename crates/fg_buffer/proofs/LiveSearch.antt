-- A search through the lines of a slab.
use Rattle.std.proofs.Common.{◌≡◌, ◌⊎◌, ◌+◌, ◌++◌, ◌<◌, ◌≤◌, ℕ, zero, suc, List, [], ◌∷◌, map, length, get_or, Option, Some, None, inl, inr, ap, ⊎_elim, arith}
use Rattle.std.proofs.lemmas.Option.{none-some}
use Rattle.std.specs.List.{Contains}
use Rattle.slab.specs.Slab.{Slab, get, entries, entries_from}
use Rattle.slab.proofs.SlabLemmas.{Contains-entries, ContainsKey-within}
use Rattle.fg_peel.specs.declared.Line.{Line}
use Rattle.fg_peel.proofs.Lists.{Contains-here, Contains-there, Contains-cases, Contains-nil}
use Rattle.fg_peel.proofs.Options.{has_value}
use Rattle.fg_buffer.specs.LiveInside.{Holds}
use Rattle.fg_buffer.proofs.LiveLists.{listed_slot}
use Rattle.fg_buffer.proofs.LiveViews.{listed}

abbrev pub lines_in : List (ℕ × Line) → List Line
lines_in rest = map (λ entry. entry.1) rest

-- A walk goes past its first line, of which this is so. Each line is left of the walk, or this is so of it.
pub past_first :
    (IsDone : Line → Type 0) (all : List (ℕ × Line)) (entry : ℕ × Line) (rest : List (ℕ × Line)) → all ≡ entry ∷ rest
    → IsDone entry.1 → (line : Line) → Contains (lines_in all) line ⊎ IsDone line → Contains (lines_in rest) line ⊎ IsDone line
past_first IsDone all entry rest cut done line so = ⊎_elim
    (λ left. ⊎_elim
    (λ here. inr (rw here done))
    (λ there. inl there)
    (Contains-cases entry.1 (lines_in rest) line (rw cut at left)))
    (λ before. inr before)
    so

-- What is left of a walk is held under its key, and no line before it is sought.
pub record Searches (IsSought : Line → Type 0) (lines : Slab Line) (rest : List (ℕ × Line)) : Type 0 where
  pub keyed : (entry : ℕ × Line) → Contains rest entry → get lines entry.0 ≡ Some entry.1
  pub others : (line : Line) → Holds lines line → Contains (lines_in rest) line ⊎ (IsSought line → ⊥)

module _ (IsSought : Line → Type 0) (lines : Slab Line) where
  pub search_begins : (rest : List (ℕ × Line)) → rest ≡ entries lines → Searches IsSought lines rest
  search_begins rest whole = record {
    keyed = λ entry c. (Contains-entries lines entry.0 entry.1).0 (rw whole at c);
    others = λ line h. inl (rw whole (listed lines line h));
  }

  pub search_key :
      (all : List (ℕ × Line)) (entry : ℕ × Line) (rest : List (ℕ × Line)) → all ≡ entry ∷ rest
      → Searches IsSought lines all → get lines entry.0 ≡ Some entry.1
  search_key all entry rest cut searches = searches.keyed entry (rw cut (Contains-here entry rest))

  pub search_first :
      (all : List (ℕ × Line)) (entry : ℕ × Line) (rest : List (ℕ × Line)) → all ≡ entry ∷ rest
      → Searches IsSought lines all → Holds lines entry.1
  search_first all entry rest cut searches = (entry.0, search_key all entry rest cut searches)

  -- where less is sought
  pub search_weaker :
      (IsSought' : Line → Type 0) → ((line : Line) → IsSought' line → IsSought line) → (rest : List (ℕ × Line))
      → Searches IsSought lines rest → Searches IsSought' lines rest
  search_weaker IsSought' less rest searches = record {
    keyed = searches.keyed;
    others = λ line h. ⊎_elim (λ left. inl left) (λ done. inr (λ sought. done (less line sought))) (searches.others line h);
  }

  pub search_goes_on :
      (all : List (ℕ × Line)) (entry : ℕ × Line) (rest : List (ℕ × Line)) → all ≡ entry ∷ rest → (IsSought entry.1 → ⊥)
      → Searches IsSought lines all → Searches IsSought lines rest
  search_goes_on all entry rest cut not searches = record {
    keyed = λ other c. searches.keyed other (rw cut (Contains-there entry rest other c));
    others = λ line h. past_first (λ sought. IsSought sought → ⊥) all entry rest cut not line (searches.others line h);
  }

  pub search_ends :
      (rest : List (ℕ × Line)) → rest ≡ [] → Searches IsSought lines rest → (line : Line) → Holds lines line
      → IsSought line → ⊥
  search_ends rest none searches line h =
      ⊎_elim (λ left. absurd (Contains-nil line (rw none at left))) (λ done. done) (searches.others line h)

-- The keys of a walk rise: none lies past the last.
listed_from :
    (first : ℕ) (slots : List (Option Line)) (entry : ℕ × Line) → Contains (entries_from first slots) entry → first ≤ entry.0
listed_from first [] entry c = absurd (Contains-nil entry c)
listed_from first (None ∷ rest) entry c = let later = listed_from (first + 1) rest entry c in omega (arith, later)
listed_from first (Some line ∷ rest) entry c = ⊎_elim
    (λ here. let same = ap (λ (e : ℕ × Line). e.0) here in omega (arith, same))
    (λ there. let later = listed_from (first + 1) rest entry there in omega (arith, later))
    (Contains-cases (first, line) (entries_from (first + 1) rest) entry c)

ends_with : (front : List (ℕ × Line)) (last : ℕ × Line) → Contains (front ++ (last ∷ [])) last
ends_with [] last = Contains-here last []
ends_with (entry ∷ front) last = Contains-there entry (front ++ (last ∷ [])) last (ends_with front last)

last_of :
    (first : ℕ) (slots : List (Option Line)) (front : List (ℕ × Line)) (last : ℕ × Line)
    → entries_from first slots ≡ front ++ (last ∷ []) → (i : ℕ) (line : Line) → get_or slots i None ≡ Some line
    → first + i ≤ last.0
last_of first [] front last cut i line is = absurd (none-some line is)
last_of first (None ∷ rest) front last cut zero line is = absurd (none-some line is)
last_of first (None ∷ rest) front last cut (suc i) line is =
    let later = last_of (first + 1) rest front last cut i line is in omega (arith, later)
last_of first (Some one ∷ rest) [] last cut zero line is =
    let e : (first, one) ≡ last = cc in
    let same = ap (λ (e : ℕ × Line). e.0) e in
    omega (arith, same)
last_of first (Some one ∷ rest) [] last cut (suc i) line is =
    let none : entries_from (first + 1) rest ≡ [] = cc in
    let c = listed_slot (first + 1) rest i line is in
    absurd (Contains-nil line (rw none at c))
last_of first (Some one ∷ rest) (entry ∷ front) last cut zero line is =
    let cut' : entries_from (first + 1) rest ≡ front ++ (last ∷ []) = cc in
    let later = listed_from (first + 1) rest last (rw cut' (ends_with front last)) in
    omega (arith, later)
last_of first (Some one ∷ rest) (entry ∷ front) last cut (suc i) line is =
    let cut' : entries_from (first + 1) rest ≡ front ++ (last ∷ []) = cc in
    let later = last_of (first + 1) rest front last cut' i line is in omega (arith, later)

pub last_key :
    (lines : Slab Line) (front : List (ℕ × Line)) (last : ℕ × Line) → entries lines ≡ front ++ (last ∷ []) → (key : ℕ)
    (line : Line) → get lines key ≡ Some line → key ≤ last.0
last_key lines front last cut key line is =
    let near = last_of 0 lines.slots front last cut key line is in omega (arith, near)

pub last_within :
    (lines : Slab Line) (front : List (ℕ × Line)) (last : ℕ × Line) → entries lines ≡ front ++ (last ∷ [])
    → last.0 < length lines.slots
last_within lines front last cut =
    let at = (Contains-entries lines last.0 last.1).0 (rw cut (ends_with front last)) in
    ContainsKey-within lines last.0 (has_value (get lines last.0) last.1 at)
