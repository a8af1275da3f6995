-- Lemmas on runs of which those below an end are left.
use Rattle.std.proofs.Common.{◌≡◌, ◌⊎◌, ◌↔◌, ℕ, ◌-◌, ◌<◌, ◌≤◌, List, [], ◌∷◌, ◌++◌, min, sym, subst, ap, ◌∙◌, inl, inr, ⊎_elim, arith}
use Rattle.fg_report.specs.Gaps.{run_end, AreApart, IsInGap}

-- the runs before the last one
pub front_apart : (front : List (ℕ × ℕ)) (last : ℕ × ℕ) → AreApart (front ++ last ∷ []) → AreApart front
front_apart [] last apart = tt
front_apart (run ∷ []) last apart = (apart.0, tt, tt)
front_apart (run ∷ next ∷ more) last apart = (apart.0, apart.1, front_apart (next ∷ more) last apart.2)

-- the last one may have another length
pub last_apart : (front : List (ℕ × ℕ)) (last : ℕ × ℕ) (count : ℕ) → 0 < count → AreApart (front ++ last ∷ []) → AreApart (front ++ (last.0, count) ∷ [])
last_apart [] last count some apart = (some, tt, tt)
last_apart (run ∷ []) last count some apart = (apart.0, apart.1, last_apart [] last count some apart.2)
last_apart (run ∷ next ∷ more) last count some apart = (apart.0, apart.1, last_apart (next ∷ more) last count some apart.2)

-- a position of the last run, or of one before it
pub last_or_front : (front : List (ℕ × ℕ)) (last : ℕ × ℕ) (position : ℕ)
    → IsInGap (front ++ last ∷ []) position → IsInGap front position ⊎ ((last.0 ≤ position) × (position < run_end last))
last_or_front [] last position inside = ⊎_elim (λ here. inr here) (λ there. absurd there) inside
last_or_front (run ∷ more) last position inside = ⊎_elim
    (λ here. inl (inl here))
    (λ there. ⊎_elim (λ front. inl (inr front)) (λ last. inr last) (last_or_front more last position there))
    inside

pub in_front : (front : List (ℕ × ℕ)) (last : ℕ × ℕ) (position : ℕ) → IsInGap front position → IsInGap (front ++ last ∷ []) position
in_front [] last position inside = absurd inside
in_front (run ∷ more) last position inside = ⊎_elim (λ here. inl here) (λ there. inr (in_front more last position there)) inside

pub in_last : (front : List (ℕ × ℕ)) (last : ℕ × ℕ) (position : ℕ) → (last.0 ≤ position) × (position < run_end last)
    → IsInGap (front ++ last ∷ []) position
in_last [] last position inside = inl inside
in_last (run ∷ more) last position inside = inr (in_last more last position inside)

-- the runs before the last one end before it begins
run_before : (run : ℕ × ℕ) (front : List (ℕ × ℕ)) (last : ℕ × ℕ) → AreApart (run ∷ (front ++ last ∷ [])) → run_end run < last.0
run_before run [] last apart = apart.1
run_before run (next ∷ more) last apart =
    let behind = run_before next more last apart.2 in let before = apart.1 in let some = apart.2.0 in omega arith

pub before_last : (front : List (ℕ × ℕ)) (last : ℕ × ℕ) (position : ℕ) → AreApart (front ++ last ∷ []) → IsInGap front position → position < last.0
before_last [] last position apart inside = absurd inside
before_last (run ∷ more) last position apart inside = ⊎_elim
    (λ here. let before = run_before run more last apart in let below = here.1 in omega arith)
    (λ there. before_last more last position apart.2 there)
    inside

-- what is left of runs has the same positions below the end
pub record KeepsBelow (end : ℕ) (old new : List (ℕ × ℕ)) : Type 0 where
  pub apart : AreApart new
  pub was : (position : ℕ) → IsInGap new position → IsInGap old position
  pub stays : (position : ℕ) → position < end → IsInGap old position → IsInGap new position

pub keeps_all : (end : ℕ) (runs : List (ℕ × ℕ)) → AreApart runs → KeepsBelow end runs runs
keeps_all end runs apart = record { apart = apart; was = λ position inside. inside; stays = λ position below inside. inside }

-- where the last run begins at the end or past it, and goes
pub keeps_front : (end : ℕ) (old runs front : List (ℕ × ℕ)) (last : ℕ × ℕ) → runs ≡ front ++ last ∷ [] → end ≤ last.0
    → KeepsBelow end old runs → KeepsBelow end old front
keeps_front end old runs front last is past keeps =
    let here : KeepsBelow end old (front ++ last ∷ []) = subst (λ r. KeepsBelow end old r) is keeps in record {
      apart = front_apart front last here.apart;
      was = λ position inside. here.was position (in_front front last position inside);
      stays = λ position below inside. ⊎_elim
          (λ inside. inside)
          (λ at. absurd (let from = at.0 in omega arith))
          (last_or_front front last position (here.stays position below inside));
    }

-- what is promised of runs that are cut
pub record IsCut (end : ℕ) (old new : List (ℕ × ℕ)) : Type 0 where
  pub apart : AreApart new
  pub below : (position : ℕ) → IsInGap new position ↔ (IsInGap old position × (position < end))

-- nothing is left
pub cut_all : (end : ℕ) (old new : List (ℕ × ℕ)) → new ≡ [] → KeepsBelow end old new → IsCut end old new
cut_all end old new none keeps = let here : KeepsBelow end old [] = subst (λ r. KeepsBelow end old r) none keeps in
    let done : IsCut end old [] = record {
      apart = tt;
      below = λ position. (λ inside. absurd inside, λ inside. here.stays position inside.1 inside.0);
    } in subst (λ r. IsCut end old r) (sym none) done

-- the last run begins below the end, and is cut there
pub cut_last : (end : ℕ) (old runs front new : List (ℕ × ℕ)) (first length left : ℕ) → runs ≡ front ++ (first, length) ∷ []
    → new ≡ front ++ (first, left) ∷ [] → left ≡ min length (end - first) → first < end → KeepsBelow end old runs → IsCut end old new
cut_last end old runs front new first length left is now count before keeps =
    let here : KeepsBelow end old (front ++ (first, length) ∷ []) = subst (λ r. KeepsBelow end old r) is keeps in
    let some : 0 < length = last_some front (first, length) here.apart in
    let left_some : 0 < left = omega (arith, some, count) in
    let done : IsCut end old (front ++ (first, left) ∷ []) = record {
      apart = last_apart front (first, length) left left_some here.apart;
      below = λ position. (
        λ inside. ⊎_elim
            (λ early. (
            let less = before_last front (first, length) position here.apart early in
            (here.was position (in_front front (first, length) position early), omega (arith, less, before))
            ))
            (λ late. (
            let from = late.0 in let upto = late.1 in
            (here.was position (in_last front (first, length) position (from, omega (arith, upto, count))), omega (arith, from, upto, count))
            ))
            (last_or_front front (first, left) position inside),
        λ inside. ⊎_elim
            (λ early. in_front front (first, left) position early)
            (λ late. (
            let from = late.0 in let upto = late.1 in let less = inside.1 in
            in_last front (first, left) position (from, omega (arith, from, upto, less, count))
            ))
            (last_or_front front (first, length) position (here.stays position inside.1 inside.0)),
      );
    } in subst (λ r. IsCut end old r) (sym now) done
  where
    last_some : (front : List (ℕ × ℕ)) (last : ℕ × ℕ) → AreApart (front ++ last ∷ []) → 0 < last.1
    last_some [] last apart = apart.0
    last_some (run ∷ []) last apart = apart.2.0
    last_some (run ∷ next ∷ more) last apart = last_some (next ∷ more) last apart.2

-- the same as the code does it: its first position and its length are taken as wider numbers
pub cut_wide : (end : ℕ) (old runs front new : List (ℕ × ℕ)) (first length wide long left : ℕ) → wide ≡ first → long ≡ length
    → runs ≡ front ++ (first, length) ∷ [] → new ≡ front ++ (first, left) ∷ [] → left ≡ min long (end - wide) → wide < end
    → KeepsBelow end old runs → IsCut end old new
cut_wide end old runs front new first length wide long left same same' is now count before keeps =
    cut_last end old runs front new first length left is now
    (count ∙ ap (λ n. min n (end - wide)) same' ∙ ap (λ n. min length (end - n)) same) (omega (arith, same, before)) keeps
