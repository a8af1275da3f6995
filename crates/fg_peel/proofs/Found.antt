-- What a peeling found may be taken as known.
use Rattle.std.proofs.Common.{◌≡◌, ◌↔◌, ℕ, List, Option, Some, None, IsSome, ⊎_elim}
use Rattle.fg_words.specs.declared.Word.{Word}
use Rattle.fg_peel.specs.Equation.{Equation, AreAdmissible}
use Rattle.fg_peel.specs.Closure.{InClosure}
use Rattle.fg_peel.specs.Solution.{IsSolution, FindsMedia}
use Rattle.fg_peel.specs.Peeling.{Step, IsPeeling, end_of}
use Rattle.fg_peel.proofs.Closures.{closure_grows, closure_final}
use Rattle.fg_peel.proofs.Peelings.{known_or_not, end_of-keeps, end_of-known, peelings_stay}
use Rattle.fg_peel.proofs.Solutions.{peelings_agree}
use Rattle.fg_peel.proofs.Options.{value_of}

module _
    (known : ℕ → Option Word) (equations : List Equation) (steps : List Step) (peeling : IsPeeling known equations steps) where
  pub found_closure : (position : ℕ) → InClosure known equations position ↔ InClosure (end_of known steps) equations position
  found_closure position = (
    closure_grows known (end_of known steps) equations equations (end_of-known known equations steps peeling) (λ e l. l) position,
    closure_final known (end_of known steps) equations (peelings_stay known equations steps peeling) position,
  )

  -- what is unknown at the end was unknown
  unknown_before : (q : ℕ) → end_of known steps q ≡ None → known q ≡ None
  unknown_before q none = ⊎_elim
      (λ k. let h : IsSome (end_of known steps q) = end_of-known known equations steps peeling q k in absurd (cc))
      (λ unknown. unknown)
      (known_or_not (known q))

  pub found_solutions :
      AreAdmissible known equations → FindsMedia known (end_of known steps)
      → (words : ℕ → Option Word) → IsSolution known equations words ↔ IsSolution (end_of known steps) equations words
  found_solutions admissible media words = (
    λ solution. record {
      domain = λ q. (
        λ h. (found_closure q).0 ((solution.domain q).0 h),
        λ i. (solution.domain q).1 ((found_closure q).1 i),
      );
      keeps = peelings_agree known equations admissible words solution steps peeling;
      media = λ q w none is. solution.media q w (unknown_before q none) is;
      sums = λ equation listed inside. solution.sums equation listed (λ q c. (found_closure q).1 (inside q c));
    },
    λ solution. record {
      domain = λ q. (
        λ h. (found_closure q).1 ((solution.domain q).0 h),
        λ i. (solution.domain q).1 ((found_closure q).0 i),
      );
      keeps = λ q w is. solution.keeps q w (end_of-keeps known equations steps peeling q w is);
      media = λ q w unknown is. ⊎_elim
          (λ k.
          let v = value_of (end_of known steps q) k in
          let kept : words q ≡ Some v.0 = solution.keeps q v.0 v.1 in
          let same : v.0 ≡ w = cc in
          rw (← same) (media q v.0 unknown v.1))
          (λ none. solution.media q w none is)
          (known_or_not (end_of known steps q));
      sums = λ equation listed inside. solution.sums equation listed (λ q c. (found_closure q).0 (inside q c));
    },
  )
