-- Lemmas on runs of positions.
use Rattle.std.proofs.Common.{◌≡◌, ◌≢◌, ◌⊎◌, ◌↔◌, ℕ, ◌+◌, ◌-◌, ◌^◌, ◌<◌, ◌≤◌, ◌==◌, Bool, true, false, cond, List, [], ◌∷◌, ◌++◌, length, take, get_or, suc, refl, sym, ap, ◌∙◌, subst, arith, Some}
use Rattle.std.proofs.lemmas.Bool.Decides.{nat_tests}
use Rattle.std.proofs.Math.ListN.{set}
use Rattle.std.proofs.Math.Seq.{take-suc, take-suc-set, take-length}
use Rattle.std.proofs.lemmas.List.{length-set}
use Rattle.std.proofs.lemmas.Option.{get_or_from_slice_get}
use Rattle.std.specs.List.{slice_get}
use Rattle.fg_report.specs.Gaps.{run_end, gaps_end, with_gap, EndsAt, EndsBefore, AreApart, AreKept, IsInGap}
use Rattle.fg_report.specs.Laws.{GapsStayApart, TouchingIsOne, GapsHold}

-- what a test of equality says
test_true : (a b : ℕ) → (a == b) ≡ true → a ≡ b
test_true a b e = grind (arith, nat_tests)

test_false : (a b : ℕ) → (a == b) ≡ false → a ≢ b
test_false a b e = grind (arith, nat_tests)

true_test : (a b : ℕ) → a ≡ b → (a == b) ≡ true
true_test a b e = grind (arith, nat_tests)

false_test : (a b : ℕ) → a ≢ b → (a == b) ≡ false
false_test a b e = grind (arith, nat_tests)

-- the last two runs, where they are one and where they are two
abbrev joined : ℕ × ℕ → ℕ → List (ℕ × ℕ)
joined run count = (run.0, run.1 + count) ∷ []

-- behind a run there is at least one more
end_step : (run next : ℕ × ℕ) (more : List (ℕ × ℕ)) (first count : ℕ)
    → gaps_end (run ∷ with_gap (next ∷ more) first count) ≡ gaps_end (with_gap (next ∷ more) first count)
end_step run next [] first count =
    elim (run_end next == first) as (λ b. gaps_end (run ∷ cond b ((next.0, next.1 + count) ∷ []) (next ∷ (first, count) ∷ []))
    ≡ gaps_end (cond b ((next.0, next.1 + count) ∷ []) (next ∷ (first, count) ∷ []))) [ true ↦ refl | false ↦ refl ]
end_step run next (third ∷ more) first count = refl

gap_step : (run next : ℕ × ℕ) (more : List (ℕ × ℕ)) (first count from many : ℕ)
    → with_gap (run ∷ with_gap (next ∷ more) first count) from many ≡ run ∷ with_gap (with_gap (next ∷ more) first count) from many
gap_step run next [] first count from many =
    elim (run_end next == first) as (λ b. with_gap (run ∷ cond b ((next.0, next.1 + count) ∷ []) (next ∷ (first, count) ∷ [])) from many
    ≡ run ∷ with_gap (cond b ((next.0, next.1 + count) ∷ []) (next ∷ (first, count) ∷ [])) from many) [ true ↦ refl | false ↦ refl ]
gap_step run next (third ∷ more) first count from many = refl

before_step : (run next : ℕ × ℕ) (more : List (ℕ × ℕ)) (first count : ℕ)
    → run_end run < next.0 → EndsBefore run (with_gap (next ∷ more) first count)
before_step run next [] first count before =
    elim (run_end next == first) as (λ b. EndsBefore run (cond b ((next.0, next.1 + count) ∷ []) (next ∷ (first, count) ∷ []))) [ true ↦ before | false ↦ before ]
before_step run next (third ∷ more) first count before = before

-- one more run's end is the end
end_one : (run : ℕ × ℕ) (first count : ℕ) (b : Bool) → (run_end run == first) ≡ b
    → gaps_end (cond b ((run.0, run.1 + count) ∷ []) (run ∷ (first, count) ∷ [])) ≡ first + count
end_one run first count true e = let same : run_end run ≡ first = test_true (run_end run) first e in omega arith
end_one run first count false e = refl

pub gaps_end-with : (runs : List (ℕ × ℕ)) (first count : ℕ) → gaps_end (with_gap runs first count) ≡ first + count
gaps_end-with [] first count = refl
gaps_end-with (run ∷ []) first count = end_one run first count (run_end run == first) refl
gaps_end-with (run ∷ next ∷ more) first count = end_step run next more first count ∙ gaps_end-with (next ∷ more) first count

-- the runs stay apart
apart_one : (run : ℕ × ℕ) (first count : ℕ) (b : Bool) → (run_end run == first) ≡ b → 0 < run.1 → 0 < count → run_end run ≤ first
    → AreApart (cond b ((run.0, run.1 + count) ∷ []) (run ∷ (first, count) ∷ []))
apart_one run first count true e some more behind = (omega arith, tt, tt)
apart_one run first count false e some more behind =
    let other : run_end run ≢ first = test_false (run_end run) first e in
    let before : run_end run < first = grind arith in (some, before, (more, tt, tt))

pub apart_with : GapsStayApart
apart_with [] first count apart some behind = (some, tt, tt)
apart_with (run ∷ []) first count apart some behind = apart_one run first count (run_end run == first) refl apart.0 some behind
apart_with (run ∷ next ∷ more) first count apart some behind =
    (apart.0, before_step run next more first count apart.1, apart_with (next ∷ more) first count apart.2 some behind)

pub kept_with : (runs : List (ℕ × ℕ)) (first count : ℕ) → AreKept runs → 0 < count → gaps_end runs ≤ first → first + count ≤ 2 ^ 62
    → AreKept (with_gap runs first count)
kept_with runs first count kept some behind limit = record {
  apart = apart_with runs first count kept.apart some behind;
  limit = rw (gaps_end-with runs first count) limit;
}

-- two runs that touch
touch_one : (run : ℕ × ℕ) (first count more : ℕ) (b : Bool) → (run_end run == first) ≡ b
    → with_gap (cond b ((run.0, run.1 + count) ∷ []) (run ∷ (first, count) ∷ [])) (first + count) more
    ≡ cond b ((run.0, run.1 + (count + more)) ∷ []) (run ∷ (first, count + more) ∷ [])
touch_one run first count more true e =
    let same : run_end run ≡ first = test_true (run_end run) first e in
    let ends : run.0 + (run.1 + count) ≡ first + count = omega arith in
    let all : (run.1 + count) + more ≡ run.1 + (count + more) = omega arith in
    rw (true_test (run.0 + (run.1 + count)) (first + count) ends) (ap (λ n. (run.0, n) ∷ []) all)
touch_one run first count more false e = rw (true_test (first + count) (first + count) refl) refl

pub touching : TouchingIsOne
touching [] first count more = rw (true_test (first + count) (first + count) refl) refl
touching (run ∷ []) first count more = touch_one run first count more (run_end run == first) refl
touching (run ∷ next ∷ rest) first count more =
    gap_step run next rest first count (first + count) more ∙ ap (λ runs. run ∷ runs) (touching (next ∷ rest) first count more)

-- the positions in a gap
hold_one : (run : ℕ × ℕ) (first count position : ℕ) (b : Bool) → (run_end run == first) ≡ b
    → IsInGap (cond b ((run.0, run.1 + count) ∷ []) (run ∷ (first, count) ∷ [])) position
    ↔ (IsInGap (run ∷ []) position ⊎ ((first ≤ position) × (position < first + count)))
hold_one run first count position true e =
    let same : run_end run ≡ first = test_true (run_end run) first e in grind arith
hold_one run first count position false e = grind arith

hold_more : {A B C D : Type 0} → (A ↔ (B ⊎ C)) → ((D ⊎ A) ↔ ((D ⊎ B) ⊎ C))
hold_more e = grind (arith, e)

pub holding : GapsHold
holding [] first count position = grind arith
holding (run ∷ []) first count position = hold_one run first count position (run_end run == first) refl
holding (run ∷ next ∷ more) first count position = hold_more (holding (next ∷ more) first count position)

-- a run behind others
with_last : (front : List (ℕ × ℕ)) (last : ℕ × ℕ) (first count : ℕ)
    → with_gap (front ++ last ∷ []) first count ≡ front ++ cond (run_end last == first) ((last.0, last.1 + count) ∷ []) (last ∷ (first, count) ∷ [])
with_last [] last first count = refl
with_last (run ∷ []) last first count = refl
with_last (run ∷ next ∷ more) last first count = ap (λ runs. run ∷ runs) (with_last (next ∷ more) last first count)

end_last : (front : List (ℕ × ℕ)) (last : ℕ × ℕ) → gaps_end (front ++ last ∷ []) ≡ run_end last
end_last [] last = refl
end_last (run ∷ []) last = refl
end_last (run ∷ next ∷ more) last = end_last (next ∷ more) last

-- the runs are those before the last one, and that one
split_last : (runs : List (ℕ × ℕ)) (d : ℕ × ℕ) → 0 < length runs
    → runs ≡ take (length runs - 1) runs ++ get_or runs (length runs - 1) d ∷ []
split_last runs d some =
    let n : suc (length runs - 1) ≡ length runs = omega arith in
    sym (take-length runs) ∙ ap (λ n. take n runs) (sym n) ∙ take-suc runs (length runs - 1) d (omega arith)

pub end_at_last : (runs : List (ℕ × ℕ)) (d : ℕ × ℕ) → 0 < length runs → gaps_end runs ≡ run_end (get_or runs (length runs - 1) d)
end_at_last runs d some = ap gaps_end (split_last runs d some) ∙ end_last (take (length runs - 1) runs) (get_or runs (length runs - 1) d)

-- the last run grows
pub grown : (runs : List (ℕ × ℕ)) (d : ℕ × ℕ) (first count : ℕ) → EndsAt runs first
    → set runs (length runs - 1) ((get_or runs (length runs - 1) d).0, (get_or runs (length runs - 1) d).1 + count) ≡ with_gap runs first count
grown runs d first count ends =
    let last = get_or runs (length runs - 1) d in
    let front = take (length runs - 1) runs in
    let grew : ℕ × ℕ = (last.0, last.1 + count) in
    let n : suc (length runs - 1) ≡ length runs = omega (arith, ends.0) in
    let same : run_end last ≡ first = sym (end_at_last runs d ends.0) ∙ ends.1 in
    sym (take-length (set runs (length runs - 1) grew))
    ∙ ap (λ m. take m (set runs (length runs - 1) grew)) (length-set runs (length runs - 1) grew ∙ sym n)
    ∙ take-suc-set runs (length runs - 1) grew (omega (arith, ends.0))
    ∙ sym (ap (λ r. with_gap r first count) (split_last runs d ends.0) ∙ with_last front last first count
    ∙ ap (λ b. front ++ cond b ((last.0, last.1 + count) ∷ []) (last ∷ (first, count) ∷ [])) (true_test (run_end last) first same))

-- a run comes behind the last
pub added : (runs : List (ℕ × ℕ)) (first count : ℕ) → ¬ EndsAt runs first → runs ++ (first, count) ∷ [] ≡ with_gap runs first count
added [] first count ends = refl
added (run ∷ []) first count ends =
    let apart : run_end run ≢ first = λ same. ends (omega arith, same) in
    sym (ap (λ b. cond b ((run.0, run.1 + count) ∷ []) (run ∷ (first, count) ∷ [])) (false_test (run_end run) first apart))
added (run ∷ next ∷ more) first count ends =
    ap (λ runs. run ∷ runs) (added (next ∷ more) first count (λ at. ends (omega (arith, at.0), at.1)))

-- where the last run grows, as the code does it
pub last_grown : (runs items : List (ℕ × ℕ)) (len first count : ℕ) (last : ℕ × ℕ)
    → items ≡ runs → len ≡ length items → last ≡ get_or items (len - 1) last → EndsAt runs first
    → set items (len - 1) (last.0, last.1 + count) ≡ with_gap runs first count
last_grown runs items len first count last same many is ends =
    let at : EndsAt items first = subst (λ r. EndsAt r first) (sym same) ends in
    let is_last : get_or items (length items - 1) last ≡ last = ap (λ n. get_or items (n - 1) last) (sym many) ∙ sym is in
    ap (λ n. set items (n - 1) (last.0, last.1 + count)) many
    ∙ ap (λ (r : ℕ × ℕ). set items (length items - 1) (r.0, r.1 + count)) (sym is_last)
    ∙ grown items last first count at ∙ ap (λ r. with_gap r first count) same

-- the last run's end
pub last_end : (runs items : List (ℕ × ℕ)) (len first : ℕ) (last : ℕ × ℕ)
    → items ≡ runs → len ≡ length items → last ≡ get_or items (len - 1) last → EndsAt runs first → last.0 + last.1 ≡ first
last_end runs items len first last same many is ends =
    let is_last : get_or items (length items - 1) last ≡ last = ap (λ n. get_or items (n - 1) last) (sym many) ∙ sym is in
    let some : 0 < length items = subst (λ (r : List (ℕ × ℕ)). 0 < length r) (sym same) ends.0 in
    ap run_end (sym is_last) ∙ sym (end_at_last items last some) ∙ ap gaps_end same ∙ ends.1

-- a run that was got is the last one
pub got_end : (items : List (ℕ × ℕ)) (last : ℕ × ℕ) → Some last ≡ slice_get items (length items - 1)
    → (0 < length items) × (gaps_end items ≡ run_end last)
got_end [] last got = cc
got_end (run ∷ more) last got = (
  omega arith,
  end_at_last (run ∷ more) last (omega arith)
      ∙ ap run_end (get_or_from_slice_get (run ∷ more) (length (run ∷ more) - 1) last last (sym got)),
)

-- where a run comes behind the last, as the code does it
pub last_added : (runs items all : List (ℕ × ℕ)) (first count : ℕ) (b : Bool) → items ≡ runs → all ≡ items ++ (first, count) ∷ []
    → b ≡ false → (EndsAt runs first → b ≡ true) → all ≡ with_gap runs first count
last_added runs items all first count b same pushed unequal test =
    let other : ¬ EndsAt runs first = λ ends. let yes = test ends in cc in
    pushed ∙ ap (λ r. r ++ (first, count) ∷ []) same ∙ added runs first count other

-- the test of the last run's end
pub ends_test : (runs items : List (ℕ × ℕ)) (last : ℕ × ℕ) (position : ℕ) → items ≡ runs
    → (0 < length items) × (gaps_end items ≡ run_end last) → ((run_end last == position) ≡ true) ↔ EndsAt runs position
ends_test runs items last position same ends = (
  λ yes. (subst (λ (r : List (ℕ × ℕ)). 0 < length r) same ends.0, sym (ap gaps_end same) ∙ ends.1 ∙ test_true (run_end last) position yes),
  λ at. true_test (run_end last) position (sym ends.1 ∙ ap gaps_end same ∙ at.1),
)
