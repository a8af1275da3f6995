-- Settled equations add nothing to the closure and nothing to the solutions.
use Rattle.std.proofs.Common.{◌↔◌, ℕ, List, Option, sym, ◌∙◌, ⊎_elim}
use Rattle.fg_words.specs.declared.Word.{Word}
use Rattle.fg_peel.specs.Equation.{Equation, Keeps, IsSettled, ComesOut, slots}
use Rattle.fg_peel.specs.Closure.{InClosure, given, derived}
use Rattle.fg_peel.specs.Solution.{IsSolution}
use Rattle.fg_peel.specs.Laws.{AddsSettled}
use Rattle.fg_peel.proofs.Closures.{closure_least, closure_grows}
use Rattle.fg_peel.proofs.Sums.{sum_at-agree}
use Rattle.fg_peel.proofs.Options.{value_of}

-- An equation that is settled in some words comes out in all words that keep them.
pub settled_still :
    (known words : ℕ → Option Word) (equation : Equation) → IsSettled known equation → Keeps known words
    → ComesOut words equation
settled_still known words equation settled keeps =
    settled.1 ∙ sum_at-agree known words (slots equation) (λ q c.
    let v = value_of (known q) (settled.0 q c) in
    v.1 ∙ sym (keeps q v.0 v.1))

module _ (known : ℕ → Option Word) (few many : List Equation) (adds : AddsSettled known few many) where
  pub settled_closure : (position : ℕ) → InClosure known few position ↔ InClosure known many position
  settled_closure position = (
    closure_grows known known few many (λ q h. h) adds.listed position,
    closure_least known many (InClosure known few) (record {
      given = λ q h. given h;
      derived = λ equation q listed slot inside. ⊎_elim
          (λ l. derived equation l slot inside)
          (λ s. given (s.0 q slot))
          (adds.settled equation listed);
    }) position,
  )

  pub settled_solutions : (words : ℕ → Option Word) → IsSolution known few words ↔ IsSolution known many words
  settled_solutions words = (
    λ solution. record {
      domain = λ q. (
        λ h. (settled_closure q).0 ((solution.domain q).0 h),
        λ i. (solution.domain q).1 ((settled_closure q).1 i),
      );
      keeps = solution.keeps;
      media = solution.media;
      sums = λ equation listed inside. ⊎_elim
          (λ l. solution.sums equation l (λ q c. (settled_closure q).1 (inside q c)))
          (λ s. settled_still known words equation s solution.keeps)
          (adds.settled equation listed);
    },
    λ solution. record {
      domain = λ q. (
        λ h. (settled_closure q).1 ((solution.domain q).0 h),
        λ i. (solution.domain q).1 ((settled_closure q).0 i),
      );
      keeps = solution.keeps;
      media = solution.media;
      sums = λ equation listed inside.
          solution.sums equation (adds.listed equation listed) (λ q c. (settled_closure q).0 (inside q c));
    },
  )
