-- Of two least matrices neither is less than the other, so they have as many datagrams in as many columns; and as a matrix has a
-- column, as many rows.
use Rattle.std.proofs.Common.{◌≡◌, ◌*◌, ◌/◌, ◌≤◌, ◌<◌, ℕ, Bool, Option, None, Some, refl, ap, sym, ◌∙◌, inl, inr, ⊎_elim, arith}
use Rattle.std.proofs.lemmas.Bool.{cases_lt}
use Rattle.std.proofs.Math.Nat.{mul-div_cancel_left}
use Rattle.fg_plan.specs.Choice.{IsLess, IsChoice}
use Rattle.fg_plan.proofs.laws.one_choice.Goals as goal

-- Of two that aren't less than each other, both numbers are the same.
same_matrix : (l d m e : ℕ) → 1 ≤ l → ¬ IsLess l d m e → ¬ IsLess m e l d → (l ≡ m) × (d ≡ e)
same_matrix l d m e some not_less not_more =
    let product : l * d ≡ m * e = ⊎_elim
    (λ (less : l * d < m * e). absurd (not_less (inl less)))
    (λ (rest : m * e ≤ l * d). ⊎_elim
    (λ (more : m * e < l * d). absurd (not_more (inl more)))
    (λ (same : l * d ≤ m * e). omega arith)
    (cases_lt (m * e) (l * d)))
    (cases_lt (l * d) (m * e)) in
    let columns : l ≡ m = ⊎_elim
    (λ (less : l < m). absurd (not_less (inr (product, less))))
    (λ (rest : m ≤ l). ⊎_elim
    (λ (more : m < l). absurd (not_more (inr (sym product, more))))
    (λ (same : l ≤ m). omega arith)
    (cases_lt m l))
    (cases_lt l m) in
    let rows : l * d ≡ l * e = product ∙ ap (λ n. n * e) (sym columns) in
    (columns, sym (mul-div_cancel_left d some) ∙ ap (λ n. n / l) rows ∙ mul-div_cancel_left e some)

same_choice :
    (burst most : ℕ) (rows : Bool) (one other : Option (ℕ × ℕ)) → IsChoice burst most rows one
    → IsChoice burst most rows other → one ≡ other
same_choice burst most rows None None first second = refl
same_choice burst most rows None (Some matrix) first second = absurd (first matrix.0 matrix.1 second.0)
same_choice burst most rows (Some matrix) None first second = absurd (second matrix.0 matrix.1 first.0)
same_choice burst most rows (Some one) (Some other) first second =
    let same = same_matrix one.0 one.1 other.0 other.1 first.0.layout.columns.0
    (second.1 one.0 one.1 first.0) (first.1 other.0 other.1 second.0) in
    ap (λ (l : ℕ). Some (l, one.1)) same.0 ∙ ap (λ (d : ℕ). Some (other.0, d)) same.1

pub returns : goal.returns
returns c = same_choice
