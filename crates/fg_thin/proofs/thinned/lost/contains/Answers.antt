-- A binary search finds a number that is there.
use Rattle.std.proofs.Common.{◌≡◌, ⊎_elim, ℕ, ◌==◌, ◌<◌, ◌≤◌, true, false, List, length, get_or, sym, ◌∙◌, arith}
use Rattle.std.specs.List.{list_any}
use Rattle.std.proofs.lemmas.Bool.{cases_lt, ne_eqb}
use Rattle.std.proofs.lemmas.Bool.Decides.{nat_tests}
use Rattle.std.proofs.lemmas.List.{get_or_default}
use Rattle.std.proofs.lemmas.List.Folds.{list_any_at, list_any_none}
use Rattle.std.proofs.lemmas.List.Sorted.{searched}
use Rattle.fg_thin.proofs.thinned.lost.contains.Goals as goal

found : (xs : List ℕ) (x i : ℕ) → i < length xs → get_or xs i 0 ≡ x → list_any (λ y. y == x) xs ≡ true
found xs x i there is = list_any_at (λ y. y == x) xs i 0 there (grind (arith, nat_tests, is))

missed : (xs : List ℕ) (x i : ℕ) → ((k : ℕ) → k < i → get_or xs k 0 < x) → ((k : ℕ) → i ≤ k → k < length xs → x < get_or xs k 0)
    → list_any (λ y. y == x) xs ≡ false
missed xs x i below above =
    list_any_none (λ y. y == x) xs (λ k d there. ne_eqb (get_or xs k d) x (λ same.
    let is : get_or xs k 0 ≡ x = get_or_default xs k 0 d there ∙ same in
    ⊎_elim (λ (lt : k < i). let less = below k lt in absurd (omega arith)) (λ (le : i ≤ k). let more = above k le there in absurd (omega arith)) (cases_lt k i)))

pub returns-in-Ok : goal.returns-in-Ok
returns-in-Ok c =
    let at = rw c.in-Ok.is at (searched c.args.drops.now c.args.number c.binary_search.result c.binary_search.ensures.position (λ i j. c.requires i j 0)) in
    sym (found c.args.drops.now c.args.number c.in-Ok.field-0 at.0 at.1)

pub returns-in-Err : goal.returns-in-Err
returns-in-Err c =
    let at = rw c.in-Err.is at (searched c.args.drops.now c.args.number c.binary_search.result c.binary_search.ensures.position (λ i j. c.requires i j 0)) in
    sym (missed c.args.drops.now c.args.number c.in-Err.field-0 at.1 at.2)
