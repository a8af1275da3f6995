-- What two slabs of lines are seen as: the live equations by serial number.
use Rattle.std.proofs.Common.{◌≡◌, ◌≢◌, ◌⊎◌, ◌+◌, ◌++◌, ◌||◌, ℕ, zero, suc, Bool, true, false, List, [], ◌∷◌, map, length, get_or, count_by, Option, Some, None, is_some, inl, inr, refl, sym, ap, subst, ◌∙◌, ⊎_elim, eq-eqb, ne_eqb, arith}
use Rattle.std.proofs.lemmas.Bool.{cases_eq, cond-false}
use Rattle.std.proofs.lemmas.List.{length-map}
use Rattle.std.proofs.lemmas.List.Elements.{Contains-append_cases}
use Rattle.std.proofs.lemmas.Option.{none-some}
use Rattle.std.specs.List.{Contains}
use Rattle.std.specs.Ordering.{nat_cmp, eq_by_cmp}
use Rattle.std.specs.Cmp.{nat_cmp_total, unsigned_tied}
use Rattle.std.specs.FinMap.{get, len, contains_key, len-empty, len-insert}
use Rattle.std.specs.FinSet as set
use Rattle.slab.specs.Slab.{entries_from}
use Rattle.slab.proofs.SlabLemmas.{length-entries_from}
use Rattle.fg_peel.specs.declared.Line.{Line}
use Rattle.fg_peel.proofs.Lists.{Contains-here, Contains-there, Contains-cases, Contains-nil}
use Rattle.fg_peel.proofs.Maps.{nothing_in_empty, inserted, beside_inserted}
use Rattle.fg_peel.proofs.Options.{none_or_some}
use Rattle.fg_peel.specs.Live.{Live}
use Rattle.fg_buffer.specs.LiveEquations.{live_of}
use Rattle.fg_buffer.specs.LiveInside.{live_in, serials_in}

-- No two of the lines have the same serial number.
abbrev pub AreApart : List Line → Type 0
AreApart [] = Unit {0}
AreApart (line ∷ rest) = ((other : Line) → Contains rest other → line.serial ≢ other.serial) × AreApart rest

-- what is live stems from a line
pub line_of :
    (lines : List Line) (serial : ℕ) (live : Live) → get (live_in lines) serial ≡ Some live
    → (line : Line) × Contains lines line × (line.serial ≡ serial) × (live ≡ live_of line)
unfolding live_in
line_of [] serial live is = absurd (nothing_in_empty serial live is)
line_of (line ∷ rest) serial live is = ⊎_elim
    (λ same.
    let e : Some live ≡ Some (live_of line) = sym is ∙ inserted (live_in rest) line.serial (live_of line) serial same in
    (line, Contains-here line rest, sym same, cc))
    (λ other.
    let r = line_of rest serial live (sym (beside_inserted (live_in rest) line.serial (live_of line) serial other) ∙ is) in
    (r.0, Contains-there line rest r.0 r.1, r.2, r.3))
    (cases_eq serial line.serial)

-- a line is live
pub live_here :
    (lines : List Line) → AreApart lines → (line : Line) → Contains lines line
    → get (live_in lines) line.serial ≡ Some (live_of line)
unfolding live_in
live_here [] apart line c = absurd (Contains-nil line c)
live_here (first ∷ rest) apart line c = ⊎_elim
    (λ here.
    subst (λ (l : Line). get (live_in (first ∷ rest)) l.serial ≡ Some (live_of l)) (sym here)
    (inserted (live_in rest) first.serial (live_of first) first.serial refl))
    (λ there.
    beside_inserted (live_in rest) first.serial (live_of first) line.serial (λ same. apart.0 line there (sym same))
    ∙ live_here rest apart.1 line there)
    (Contains-cases first rest line c)

pub len-live_in : (lines : List Line) → AreApart lines → len (live_in lines) ≡ length lines
unfolding live_in
len-live_in [] apart = len-empty nat_cmp Live
len-live_in (first ∷ rest) apart =
    let none : get (live_in rest) first.serial ≡ None = ⊎_elim
    (λ n. n)
    (λ some. let r = line_of rest first.serial some.0 some.1 in absurd (apart.0 r.0 r.1 (sym r.2)))
    (none_or_some (get (live_in rest) first.serial)) in
    let more : len (live_in (first ∷ rest)) ≡ len (live_in rest) + 1 =
    len-insert nat_cmp_total (live_in rest) first.serial (live_of first)
    ∙ cond-false (contains_key (live_in rest) first.serial) (len (live_in rest)) (len (live_in rest) + 1) (ap is_some none) in
    omega (arith, more, len-live_in rest apart.1)

-- a serial number stems from a line, and that of a line is there
either_true : (a b : Bool) → (a || b) ≡ true → (a ≡ true) ⊎ (b ≡ true)
either_true true b e = inl refl
either_true false b e = inr e

pub line_of_serial :
    (lines : List Line) (serial : ℕ) → set.contains (serials_in lines) serial ≡ true
    → (line : Line) × Contains lines line × (line.serial ≡ serial)
unfolding serials_in
line_of_serial [] serial is =
    let e : false ≡ true = sym (set.contains-empty nat_cmp serial) ∙ is in absurd (cc)
line_of_serial (line ∷ rest) serial is = ⊎_elim
    (λ same. (line, Contains-here line rest, sym same))
    (λ other.
    let e : set.contains (serials_in rest) serial ≡ true =
    ap (λ b. b || set.contains (serials_in rest) serial) (sym (unsigned_tied serial line.serial ∙ ne_eqb serial line.serial other))
    ∙ sym (set.contains-insert nat_cmp_total (serials_in rest) line.serial serial) ∙ is in
    let r = line_of_serial rest serial e in
    (r.0, Contains-there line rest r.0 r.1, r.2))
    (cases_eq serial line.serial)

or_true : (a : Bool) → (a || true) ≡ true
or_true true = refl
or_true false = refl

pub serial_here :
    (lines : List Line) (line : Line) → Contains lines line → set.contains (serials_in lines) line.serial ≡ true
unfolding serials_in
serial_here [] line c = absurd (Contains-nil line c)
serial_here (first ∷ rest) line c = ⊎_elim
    (λ here.
    set.contains-insert nat_cmp_total (serials_in rest) first.serial line.serial
    ∙ ap (λ b. b || set.contains (serials_in rest) line.serial) (unsigned_tied line.serial first.serial ∙ eq-eqb line.serial first.serial (ap (λ (l : Line). l.serial) here)))
    (λ there.
    set.contains-insert nat_cmp_total (serials_in rest) first.serial line.serial
    ∙ ap (λ b. eq_by_cmp nat_cmp line.serial first.serial || b) (serial_here rest line there)
    ∙ or_true (eq_by_cmp nat_cmp line.serial first.serial))
    (Contains-cases first rest line c)

-- joined lists
pub AreApart-joined :
    (xs ys : List Line) → AreApart xs → AreApart ys
    → ((one other : Line) → Contains xs one → Contains ys other → one.serial ≢ other.serial) → AreApart (xs ++ ys)
AreApart-joined [] ys a b between = b
AreApart-joined (x ∷ xs) ys a b between = (
  λ other c. ⊎_elim
      (λ front. a.0 other front)
      (λ back. between x other (Contains-here x xs) back)
      (Contains-append_cases xs ys other c),
  AreApart-joined xs ys a.1 b (λ one other c d. between one other (Contains-there x xs one c) d),
)

-- the lines of slots
abbrev pub lines_from : ℕ → List (Option Line) → List Line
lines_from first slots = map (λ (entry : ℕ × Line). entry.1) (entries_from first slots)

pub slot_of :
    (first : ℕ) (slots : List (Option Line)) (line : Line) → Contains (lines_from first slots) line
    → (i : ℕ) × (get_or slots i None ≡ Some line)
slot_of first [] line c = absurd (Contains-nil line c)
slot_of first (None ∷ rest) line c = let r = slot_of (first + 1) rest line c in (suc r.0, r.1)
slot_of first (Some x ∷ rest) line c = ⊎_elim
    (λ here. (0, ap Some (sym here)))
    (λ there. let r = slot_of (first + 1) rest line there in (suc r.0, r.1))
    (Contains-cases x (lines_from (first + 1) rest) line c)

pub listed_slot :
    (first : ℕ) (slots : List (Option Line)) (i : ℕ) (line : Line) → get_or slots i None ≡ Some line
    → Contains (lines_from first slots) line
listed_slot first [] i line is = absurd (none-some line is)
listed_slot first (None ∷ rest) zero line is = absurd (none-some line is)
listed_slot first (None ∷ rest) (suc i) line is = listed_slot (first + 1) rest i line is
listed_slot first (Some x ∷ rest) zero line is =
    let same : x ≡ line = cc in
    subst (λ (z : Line). Contains (x ∷ lines_from (first + 1) rest) z) same (Contains-here x (lines_from (first + 1) rest))
listed_slot first (Some x ∷ rest) (suc i) line is =
    Contains-there x (lines_from (first + 1) rest) line (listed_slot (first + 1) rest i line is)

pub apart_slots :
    (first : ℕ) (slots : List (Option Line))
    → ((i j : ℕ) (one other : Line) → get_or slots i None ≡ Some one → get_or slots j None ≡ Some other
    → one.serial ≡ other.serial → i ≡ j)
    → AreApart (lines_from first slots)
apart_slots first [] each = tt
apart_slots first (None ∷ rest) each =
    apart_slots (first + 1) rest
    (λ i j one other at_i at_j same. let e : suc i ≡ suc j = each (suc i) (suc j) one other at_i at_j same in omega arith)
apart_slots first (Some line ∷ rest) each = (
  λ other c same.
      let r = slot_of (first + 1) rest other c in
      let e : 0 ≡ suc r.0 = each 0 (suc r.0) line other refl r.1 same in
      omega arith,
  apart_slots (first + 1) rest
      (λ i j one other at_i at_j same. let e : suc i ≡ suc j = each (suc i) (suc j) one other at_i at_j same in omega arith),
)

pub length-lines_from :
    (first : ℕ) (slots : List (Option Line)) → length (lines_from first slots) ≡ count_by is_some slots
length-lines_from first slots =
    length-map (entries_from first slots) (λ (entry : ℕ × Line). entry.1) ∙ length-entries_from first slots
