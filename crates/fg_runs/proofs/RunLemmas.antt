-- Lemmas on lists of runs.
use Rattle.std.proofs.Common.{◌≡◌, ◌↔◌, ℕ, ◌<◌, ◌≤◌, List, [], ◌∷◌, refl, sym, subst, inl, inr, arith}
use Rattle.fg_report.specs.Gaps.{run_end, EndsBefore, AreApart, IsInGap}
use Rattle.fg_runs.specs.Laws.{OneListOfRuns}

-- no position before a run is in one of those behind it
later : (run : ℕ × ℕ) (more : List (ℕ × ℕ)) → EndsBefore run more → AreApart more
    → (position : ℕ) → IsInGap more position → run_end run < position
later run [] before apart position inside = elim inside [ ]
later run (next ∷ more) before apart position inside =
    elim inside [
      | inl here ↦ omega (arith, before, here.0)
      | inr there ↦ let after = later next more apart.1 apart.2 position there in omega (arith, before, after)
    ]

-- the first run's first position is in the runs
first_inside : (run : ℕ × ℕ) (more : List (ℕ × ℕ)) → AreApart (run ∷ more) → IsInGap (run ∷ more) run.0
first_inside run more apart = let some = apart.0 in inl (omega arith, omega (arith, some))

-- the first run begins at or before each position
begins : (run : ℕ × ℕ) (more : List (ℕ × ℕ)) → AreApart (run ∷ more) → (position : ℕ) → IsInGap (run ∷ more) position → run.0 ≤ position
begins run more apart position inside =
    elim inside [
      | inl here ↦ here.0
      | inr there ↦ let after = later run more apart.1 apart.2 position there in omega (arith, after)
    ]

-- the position behind the first run is in no run
end_outside : (run : ℕ × ℕ) (more : List (ℕ × ℕ)) → AreApart (run ∷ more) → IsInGap (run ∷ more) (run_end run) → ⊥
end_outside run more apart inside =
    elim inside [
      | inl here ↦ omega (arith, here.1)
      | inr there ↦ let after = later run more apart.1 apart.2 (run_end run) there in omega (arith, after)
    ]

-- a run that begins with another, and whose end is in no run of the other's list, ends at it or before it
ends_within : (run other : ℕ × ℕ) (more : List (ℕ × ℕ)) → run.0 ≡ other.0 → (IsInGap (other ∷ more) (run_end run) → ⊥) → run_end other ≤ run_end run
ends_within run other more same outside =
    grind (arith, λ (inside : (other.0 ≤ run_end run) × (run_end run < run_end other)). outside (inl inside))

-- the same of the rest, where the first runs are the same
tail_inside : (run : ℕ × ℕ) (more others : List (ℕ × ℕ)) → AreApart (run ∷ more) → AreApart (run ∷ others)
    → ((position : ℕ) → IsInGap (run ∷ more) position → IsInGap (run ∷ others) position)
    → (position : ℕ) → IsInGap more position → IsInGap others position
tail_inside run more others apart apart' to position inside =
    let after = later run more apart.1 apart.2 position inside in
    elim (to position (inr inside)) [
      | inl here ↦ absurd (omega (arith, after, here.1))
      | inr there ↦ there
    ]

-- two pairs of the same parts are one
one_pair : (run run' : ℕ × ℕ) → run.0 ≡ run'.0 → run.1 ≡ run'.1 → run ≡ run'
one_pair run run' first count = grind (arith, first, count)

same_first : (run run' : ℕ × ℕ) (more more' : List (ℕ × ℕ)) → AreApart (run ∷ more) → AreApart (run' ∷ more')
    → ((position : ℕ) → IsInGap (run ∷ more) position ↔ IsInGap (run' ∷ more') position) → run ≡ run'
same_first run run' more more' apart apart' same =
    let at_least = begins run' more' apart' run.0 ((same run.0).0 (first_inside run more apart)) in
    let at_most = begins run more apart run'.0 ((same run'.0).1 (first_inside run' more' apart')) in
    let first : run.0 ≡ run'.0 = omega (arith, at_least, at_most) in
    let shorter = ends_within run run' more' first (λ inside. end_outside run more apart ((same (run_end run)).1 inside)) in
    let longer = ends_within run' run more (sym first) (λ inside. end_outside run' more' apart' ((same (run_end run')).0 inside)) in
    let count : run.1 ≡ run'.1 = omega (arith, first, shorter, longer) in
    one_pair run run' first count

-- of lists that begin with the same run
tails : (run run' : ℕ × ℕ) (more more' : List (ℕ × ℕ)) → run ≡ run' → AreApart (run ∷ more) → AreApart (run' ∷ more')
    → ((position : ℕ) → IsInGap (run ∷ more) position ↔ IsInGap (run' ∷ more') position)
    → (position : ℕ) → IsInGap more position ↔ IsInGap more' position
tails run run' more more' one apart apart' same position =
    let P : ℕ × ℕ → Type 0 = λ other. AreApart (other ∷ more') → ((position : ℕ) → IsInGap (run ∷ more) position ↔ IsInGap (other ∷ more') position)
    → IsInGap more position ↔ IsInGap more' position in
    let at : P run = λ apart' same.
    (tail_inside run more more' apart apart' (λ q. (same q).0) position, tail_inside run more' more apart' apart (λ q. (same q).1) position) in
    subst P one at apart' same

pub one_list : OneListOfRuns
one_list [] [] apart apart' same = refl
one_list [] (run ∷ more) apart apart' same = elim ((same run.0).1 (first_inside run more apart')) [ ]
one_list (run ∷ more) [] apart apart' same = elim ((same run.0).0 (first_inside run more apart)) [ ]
one_list (run ∷ more) (run' ∷ more') apart apart' same =
    let one : run ≡ run' = same_first run run' more more' apart apart' same in
    let rest : more ≡ more' = one_list more more' apart.2 apart'.2 (tails run run' more more' one apart apart' same) in
    cc
