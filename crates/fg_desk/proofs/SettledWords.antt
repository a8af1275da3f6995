-- Settled equations where the words change.
use Rattle.std.proofs.Common.{◌≡◌, ℕ, Option, IsSome, sym, subst, ◌∙◌}
use Rattle.std.specs.List.{Contains}
use Rattle.fg_words.specs.declared.Word.{Word}
use Rattle.fg_peel.specs.Equation.{Equation, Keeps, IsComplete, IsSettled, slots}
use Rattle.fg_peel.proofs.Options.{value_of, has_value}
use Rattle.fg_peel.proofs.Sums.{sum_at-agree}

-- Where the words at its slots are the same, an equation stays settled.
pub settled_where_same :
    (one other : ℕ → Option Word) (equation : Equation) → ((q : ℕ) → Contains (slots equation) q → one q ≡ other q)
    → IsSettled one equation → IsSettled other equation
settled_where_same one other equation same settled = (
  λ q c. subst (λ (o : Option Word). IsSome o) (same q c) (settled.0 q c),
  settled.1 ∙ sum_at-agree one other (slots equation) same,
)

pub complete_keeps :
    (one other : ℕ → Option Word) (equation : Equation) → Keeps one other → IsComplete one equation → IsComplete other equation
complete_keeps one other equation keeps complete q c =
    let v = value_of (one q) (complete q c) in has_value (other q) v.0 (keeps q v.0 v.1)

-- So it does where words are kept and more come.
pub settled_keeps :
    (one other : ℕ → Option Word) (equation : Equation) → Keeps one other → IsSettled one equation → IsSettled other equation
settled_keeps one other equation keeps settled =
    settled_where_same one other equation
    (λ q c. let v = value_of (one q) (settled.0 q c) in v.1 ∙ sym (keeps q v.0 v.1))
    settled

-- And where words go, but none of its own.
pub settled_back :
    (one other : ℕ → Option Word) (equation : Equation) → Keeps one other → IsComplete one equation → IsSettled other equation
    → IsSettled one equation
settled_back one other equation keeps complete settled =
    settled_where_same other one equation
    (λ q c. let v = value_of (one q) (complete q c) in keeps q v.0 v.1 ∙ sym v.1)
    settled
