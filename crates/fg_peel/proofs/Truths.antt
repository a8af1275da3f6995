-- Where the known words are true words with which every equation comes out, there is a solution of true words.
use Rattle.std.proofs.Common.{ℕ, List, Option, IsSome, sym, ap, ◌∙◌}
use Rattle.fg_words.specs.declared.Word.{Word}
use Rattle.fg_peel.specs.Equation.{Equation, AreAdmissible, Keeps, slots}
use Rattle.fg_peel.specs.Closure.{given}
use Rattle.fg_peel.specs.Solution.{IsSolution}
use Rattle.fg_peel.specs.Peeling.{Step, IsPeeling, end_of}
use Rattle.fg_peel.specs.Laws.{AreTrue}
use Rattle.fg_peel.proofs.Closures.{closure_least}
use Rattle.fg_peel.proofs.Maximal.{maximal_exists}
use Rattle.fg_peel.proofs.Solutions.{end_agrees, maximal_ends_at_solution}
use Rattle.fg_peel.proofs.Sums.{sum_at-agree}
use Rattle.fg_peel.proofs.Verdicts.{sound_from_tests}
use Rattle.fg_peel.proofs.Options.{value_of}

module _ (known : ℕ → Option Word) (equations : List Equation) (truth : ℕ → Option Word) (are : AreTrue known equations truth) where
  -- The true words are a solution of themselves.
  truth_solves : IsSolution truth equations truth
  truth_solves = record {
    domain = λ q. (
      λ h. given h,
      closure_least truth equations (λ p. IsSome (truth p)) (record {
        given = λ p h. h;
        derived = λ equation p listed slot inside. (are.settled equation listed).0 p slot;
      }) q,
    );
    keeps = λ q w is. is;
    media = λ q w unknown is. are.media q w is;
    sums = λ equation listed inside. (are.settled equation listed).1;
  }

  -- So a peeling of some of them finds true words.
  true_end : (steps : List Step) → IsPeeling known equations steps → Keeps (end_of known steps) truth
  true_end steps peeling =
      end_agrees truth equations (record { known_media = are.media; some_offset = are.some_offset }) truth truth_solves
      known are.known_true steps peeling

  pub truth_solvable : (words : ℕ → Option Word) × IsSolution known equations words
  truth_solvable =
      let m = maximal_exists known equations in
      let true_words = true_end m.0 m.1.peeling in (
        end_of known m.0,
        sound_from_tests known equations m.0 m.1
            (λ q w unknown is. are.media q w (true_words q w is))
            (λ equation listed complete.
            (are.settled equation listed).1 ∙ sym (sum_at-agree (end_of known m.0) truth (slots equation) (λ q c.
            let v = value_of (end_of known m.0 q) (complete q c) in
            v.1 ∙ sym (true_words q v.0 v.1)))),
      )

  pub solutions_true : (words : ℕ → Option Word) → IsSolution known equations words → Keeps words truth
  solutions_true words solution q w is =
      let m = maximal_exists known equations in
      let admissible : AreAdmissible known equations = record {
        known_media = λ p v known_is. are.media p v (are.known_true p v known_is);
        some_offset = are.some_offset;
      } in
      let same = maximal_ends_at_solution known equations admissible words solution m.0 m.1 in
      true_end m.0 m.1.peeling q w (ap (λ (ws : ℕ → Option Word). ws q) same ∙ is)
