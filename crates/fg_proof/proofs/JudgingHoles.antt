-- Lemmas on the holes among an equation's slots.
use Rattle.std.proofs.Common.{◌≡◌, ◌≢◌, ◌↔◌, ◌+◌, ◌*◌, ◌<◌, ◌≤◌, ℕ, Bool, true, false, IsTrue, IsSomeAnd, Option, Some, List, length, slice_get, refl, sym, ap, ◌∙◌, subst, ⊎_elim, arith}
use Rattle.std.proofs.lemmas.Bool.{cases_eq, cases_lt, false≢true}
use Rattle.std.proofs.lemmas.Option.{slice_get_past}
use Rattle.fg_peel.specs.Verdict.{IsLeast}
use Rattle.fg_shape.specs.declared.Shape.{Shape}
use Rattle.fg_shape.proofs.ShapeLemmas.{slot_of_number, number_of_slot, slots_apart}
use Rattle.fg_runs.specs.Runs.{InRuns}
use Rattle.fg_proof.specs.Judgement.{HasOneHole, IsAlone}
use Rattle.fg_proof.specs.declared.case.Case.{Case}

-- One number below a limit has a property, and no other, or none has.
abbrev pub OneBelow : Bool → (ℕ → Type 0) → ℕ → Type 0
OneBelow false P n = (i : ℕ) → i < n → ¬ P i
OneBelow true P n = (k : ℕ) × (k < n) × P k × ((i : ℕ) → i < n → i ≢ k → ¬ P i)

pub one_none : (P : ℕ → Type 0) → OneBelow false P 0
one_none P i below = absurd (omega (arith, below))

pub one_passed : (found : Bool) (P : ℕ → Type 0) (n : ℕ) → ¬ P n → OneBelow found P n → OneBelow found P (n + 1)
one_passed false P n not none = λ i below p. ⊎_elim
    (λ same. not (subst P same p))
    (λ other. none i (omega (arith, below, other)) p)
    (cases_eq i n)
one_passed true P n not one = (
  one.0,
  omega (arith, one.1),
  one.2,
  λ i below other p. ⊎_elim
      (λ same. not (subst P same p))
      (λ less. one.3 i (omega (arith, below, less)) other p)
      (cases_eq i n),
)

pub one_first : (P : ℕ → Type 0) (n : ℕ) → P n → OneBelow false P n → OneBelow true P (n + 1)
one_first P n here none = (n, omega arith, here, λ i below other p. none i (omega (arith, below, other)) p)

-- The slot of a number is a hole.
abbrev pub IsHoleAt : List (ℕ × ℕ) → ℕ → Shape → ℕ → Type 0
IsHoleAt holes base shape number = InRuns holes (base + number * shape.offset)

pub one_hole_two : (holes : List (ℕ × ℕ)) (base : ℕ) (shape : Shape) (n : ℕ) → 1 ≤ shape.offset → n < shape.na → IsHoleAt holes base shape n
    → OneBelow true (IsHoleAt holes base shape) n → ¬ HasOneHole holes (base, shape)
one_hole_two holes base shape n some below here one alone =
    let s = number_of_slot base shape.offset shape.na alone.slot alone.of_rule in
    let apart : (k : ℕ) → k < shape.na → IsHoleAt holes base shape k → (k ≡ s.0 → ⊥) → ⊥ = λ k within hole other.
    alone.others (base + k * shape.offset) (slot_of_number base shape.offset shape.na k within)
    (λ same. other (slots_apart base shape.offset k s.0 some (same ∙ s.2))) hole in
    ⊎_elim
    (λ same. apart one.0 (omega (arith, one.1)) one.2 (λ e. omega (arith, one.1, e, same)))
    (λ other. apart n below here other)
    (cases_eq n s.0)

pub one_hole_all : (found : Bool) (holes : List (ℕ × ℕ)) (base : ℕ) (shape : Shape) → OneBelow found (IsHoleAt holes base shape) shape.na
    → IsTrue found ↔ HasOneHole holes (base, shape)
one_hole_all false holes base shape none = (
  λ true. absurd (false≢true true),
  λ alone.
      let s = number_of_slot base shape.offset shape.na alone.slot alone.of_rule in
      absurd (none s.0 s.1 (subst (InRuns holes) s.2 alone.hole)),
)
one_hole_all true holes base shape one = (
  λ _. record {
    slot = base + one.0 * shape.offset;
    of_rule = slot_of_number base shape.offset shape.na one.0 one.1;
    hole = one.2;
    others = λ other inside differs hole.
        let s = number_of_slot base shape.offset shape.na other inside in
        one.3 s.0 s.1 (λ same. differs (s.2 ∙ ap (λ n. base + n * shape.offset) same)) (subst (InRuns holes) s.2 hole);
  },
  λ _. refl,
)

-- Of the lines before a number none has one hole alone: so it is where one more has none or several, and the next one that has one
-- is the first.
abbrev pub NoneBefore : Case → ℕ → Type 0
NoneBefore case number = (k : ℕ) → k < number → ¬ IsAlone case k

pub alone_at : (case : Case) (i : ℕ) (rule : ℕ × Shape) → slice_get case.lines i ≡ Some rule → IsAlone case i ↔ HasOneHole case.holes rule
alone_at case i rule is =
    let P : Option (ℕ × Shape) → Type 0 = λ o. IsSomeAnd o (HasOneHole case.holes) in
    (λ alone. subst P is alone, λ one. subst P (sym is) one)

pub alone_passed : (case : Case) (i : ℕ) (rule : ℕ × Shape) → slice_get case.lines i ≡ Some rule → ¬ HasOneHole case.holes rule → NoneBefore case i → NoneBefore case (i + 1)
alone_passed case i rule is not none k below alone = ⊎_elim
    (λ same. not ((alone_at case i rule is).0 (subst (IsAlone case) same alone)))
    (λ other. none k (omega (arith, below, other)) alone)
    (cases_eq k i)

pub alone_first : (case : Case) (i : ℕ) (rule : ℕ × Shape) → slice_get case.lines i ≡ Some rule → HasOneHole case.holes rule → NoneBefore case i → IsLeast (IsAlone case) i
alone_first case i rule is one none =
    ((alone_at case i rule is).1 one, λ m alone. ⊎_elim (λ less. absurd (none m less alone)) (λ past. past) (cases_lt m i))

pub alone_none : (case : Case) (i : ℕ) → length case.lines ≤ i → NoneBefore case i → (number : ℕ) → ¬ IsAlone case number
alone_none case i past none number alone = ⊎_elim
    (λ less. none number less alone)
    (λ more. subst (λ (o : Option (ℕ × Shape)). IsSomeAnd o (HasOneHole case.holes)) (slice_get_past case.lines number (omega (arith, more))) alone)
    (cases_lt number i)
