-- A solution has no choice: each of its words is known, or follows from an equation.
use Rattle.std.proofs.Common.{◌≡◌, ◌≢◌, ℕ, List, [], ◌∷◌, Option, Some, IsSome, sym, ap, ◌∙◌, ⊎_elim}
use Rattle.std.proofs.Math.Path.{fun_ext}
use Rattle.std.specs.List.{Contains}
use Rattle.fg_words.specs.declared.Word.{Word}
use Rattle.fg_words.specs.Word.{word_xor, HasRoom, IsMedia}
use Rattle.fg_words.proofs.WordLemmas.{word_xor_comm, word_xor-solve, word_xor-cancel}
use Rattle.fg_peel.specs.Equation.{Equation, AreAdmissible, slots, others, sum_at}
use Rattle.fg_peel.specs.Closure.{InClosure, given, derived}
use Rattle.fg_peel.specs.Solution.{IsSolution}
use Rattle.fg_peel.specs.Peeling.{Step, CanFollow, IsPeeling, IsMaximal, IsSound, after_step, end_of, given_word}
use Rattle.fg_peel.proofs.Lists.{others-element, same_or_not}
use Rattle.fg_peel.proofs.Slots.{slots_distinct}
use Rattle.fg_peel.proofs.Sums.{sum_at-agree, sum_at-split, HasRoom-sum_at}
use Rattle.fg_peel.proofs.Peelings.{known_or_not, after_step-at, after_step-other, maximal_end}
use Rattle.fg_peel.proofs.Options.{value_of}

module _ (known : ℕ → Option Word) (equations : List Equation) (admissible : AreAdmissible known equations) where
  -- Every word of a solution is a media word, and so has room.
  pub solution_media :
      (words : ℕ → Option Word) → IsSolution known equations words
      → (q : ℕ) (w : Word) → words q ≡ Some w → IsMedia w
  solution_media words solution q w is = ⊎_elim
      (λ k. let v = value_of (known q) k in
      let e : words q ≡ Some v.0 = solution.keeps q v.0 v.1 in
      let same : v.0 ≡ w = cc in
      rw (← same) (admissible.known_media q v.0 v.1))
      (λ unknown. solution.media q w unknown is)
      (known_or_not (known q))

  -- An equation whose slots are all in the closure splits into the word at one slot and those at the others.
  pub solution_split :
      (words : ℕ → Option Word) → IsSolution known equations words
      → (equation : Equation) (position : ℕ) → Contains equations equation → Contains (slots equation) position
      → ((q : ℕ) → Contains (slots equation) q → q ≢ position → InClosure known equations q)
      → (w : Word) → words position ≡ Some w
      → equation.parity ≡ word_xor w (sum_at words (others position (slots equation)))
  solution_split words solution equation position listed slot inside w is =
      solution.sums equation listed
      (λ q c. ⊎_elim (λ same. rw same (derived equation listed slot inside)) (λ n. inside q c n) (same_or_not q position))
      ∙ sum_at-split words position w is (slots equation) (slots_distinct equation (admissible.some_offset equation listed)) slot

  room_at : (words : ℕ → Option Word) → IsSolution known equations words → (q : ℕ) (w : Word) → words q ≡ Some w → HasRoom w
  room_at words solution q w is = (solution_media words solution q w is).room

  -- Two solutions agree in the closure.
  solutions_agree :
      (one other : ℕ → Option Word) → IsSolution known equations one → IsSolution known equations other
      → (q : ℕ) → InClosure known equations q → one q ≡ other q
  solutions_agree one other first second q (given h) =
      let v = value_of (known q) h in
      first.keeps q v.0 v.1 ∙ sym (second.keeps q v.0 v.1)
  solutions_agree one other first second q (derived equation listed slot inside) =
      let a = value_of (one q) ((first.domain q).1 (derived equation listed slot inside)) in
      let b = value_of (other q) ((second.domain q).1 (derived equation listed slot inside)) in
      let left : Word = sum_at one (others q (slots equation)) in
      let right : Word = sum_at other (others q (slots equation)) in
      let same : left ≡ right = sum_at-agree one other (others q (slots equation))
      (λ o c. let e = others-element q (slots equation) o c in
      solutions_agree one other first second o (inside o e.0 e.1)) in
      let p : equation.parity ≡ word_xor a.0 left = solution_split one first equation q listed slot inside a.0 a.1 in
      let r : equation.parity ≡ word_xor b.0 right = solution_split other second equation q listed slot inside b.0 b.1 in
      let t : word_xor left a.0 ≡ word_xor left b.0 =
      word_xor_comm left a.0 ∙ sym p ∙ r ∙ ap (λ (x : Word). word_xor b.0 x) (sym same) ∙ word_xor_comm b.0 left in
      let e : a.0 ≡ b.0 = word_xor-cancel left a.0 b.0 (HasRoom-sum_at one (room_at one first) (others q (slots equation)))
      (room_at one first q a.0 a.1) (room_at other second q b.0 b.1) t in
      a.1 ∙ ap Some e ∙ sym b.1

  pub solutions_equal :
      (one other : ℕ → Option Word) → IsSolution known equations one → IsSolution known equations other → one ≡ other
  solutions_equal one other first second = fun_ext (λ q. ⊎_elim
      (λ k. solutions_agree one other first second q ((first.domain q).0 k))
      (λ none. ⊎_elim
      (λ k. sym (solutions_agree other one second first q ((second.domain q).0 k)))
      (λ none'. none ∙ sym none')
      (known_or_not (other q)))
      (known_or_not (one q)))

  -- A step from words of a solution gives a word of that solution.
  pub step_agrees :
      (words : ℕ → Option Word) → IsSolution known equations words
      → (now : ℕ → Option Word) → ((q : ℕ) (w : Word) → now q ≡ Some w → words q ≡ Some w)
      → (step : Step) → CanFollow now equations step
      → words step.position ≡ Some (given_word now step)
  step_agrees words solution now agree step can =
      let rest : List ℕ = others step.position (slots step.equation) in
      let inside : (q : ℕ) → Contains (slots step.equation) q → q ≢ step.position → InClosure known equations q =
      (λ q c n. (let v = value_of (now q) (can.others_known q c n) in
      (solution.domain q).0 (rw (agree q v.0 v.1)))) in
      let closed : InClosure known equations step.position = derived step.equation can.listed can.slot inside in
      let a = value_of (words step.position) ((solution.domain step.position).1 closed) in
      let same : sum_at now rest ≡ sum_at words rest = sum_at-agree now words rest
      (λ q c. let e = others-element step.position (slots step.equation) q c in
      let v = value_of (now q) (can.others_known q e.0 e.1) in
      v.1 ∙ sym (agree q v.0 v.1)) in
      let p : step.equation.parity ≡ word_xor a.0 (sum_at words rest) =
      solution_split words solution step.equation step.position can.listed can.slot inside a.0 a.1 in
      let e : a.0 ≡ word_xor (sum_at words rest) step.equation.parity =
      word_xor-solve (sum_at words rest) a.0 step.equation.parity
      (HasRoom-sum_at words (room_at words solution) rest) (room_at words solution step.position a.0 a.1)
      (word_xor_comm (sum_at words rest) a.0 ∙ sym p) in
      let turned : a.0 ≡ word_xor step.equation.parity (sum_at words rest) =
      e ∙ word_xor_comm (sum_at words rest) step.equation.parity in
      a.1 ∙ ap Some (turned ∙ ap (λ (x : Word). word_xor step.equation.parity x) (sym same))

  -- So every peeling's words are those of the solution.
  pub end_agrees :
      (words : ℕ → Option Word) → IsSolution known equations words
      → (now : ℕ → Option Word) → ((q : ℕ) (w : Word) → now q ≡ Some w → words q ≡ Some w)
      → (steps : List Step) → IsPeeling now equations steps
      → (q : ℕ) (w : Word) → end_of now steps q ≡ Some w → words q ≡ Some w
  end_agrees words solution now agree [] peeling q w is = agree q w is
  end_agrees words solution now agree (step ∷ steps) peeling q w is =
      end_agrees words solution (after_step now step) after steps peeling.1 q w is
    where
      after : (q : ℕ) (w : Word) → after_step now step q ≡ Some w → words q ≡ Some w
      after q w is = ⊎_elim
          (λ same. (let g : after_step now step q ≡ Some (given_word now step) = (rw same (after_step-at now step)) in
          let e : Some (given_word now step) ≡ Some w = sym g ∙ is in
          let s : words step.position ≡ Some (given_word now step) = step_agrees words solution now agree step peeling.0 in
          rw same (s ∙ e)))
          (λ n. agree q w (sym (after_step-other now step q n) ∙ is))
          (same_or_not q step.position)

  pub peelings_agree :
      (words : ℕ → Option Word) → IsSolution known equations words → (steps : List Step) → IsPeeling known equations steps
      → (q : ℕ) (w : Word) → end_of known steps q ≡ Some w → words q ≡ Some w
  peelings_agree words solution steps peeling = end_agrees words solution known solution.keeps steps peeling

  -- Where there is a solution, every maximal peeling ends with it.
  pub maximal_ends_at_solution :
      (words : ℕ → Option Word) → IsSolution known equations words
      → (steps : List Step) → IsMaximal known equations steps → end_of known steps ≡ words
  maximal_ends_at_solution words solution steps maximal = fun_ext (λ q. ⊎_elim
      (λ k. let v = value_of (end_of known steps q) k in
      v.1 ∙ sym (peelings_agree words solution steps maximal.peeling q v.0 v.1))
      (λ none. ⊎_elim
      (λ k. (let h : IsSome (end_of known steps q) = (maximal_end known equations steps maximal q).1 ((solution.domain q).0 k) in cc))
      (λ none'. none ∙ sym none')
      (known_or_not (words q)))
      (known_or_not (end_of known steps q)))

  pub maximal_sound :
      (words : ℕ → Option Word) → IsSolution known equations words
      → (steps : List Step) → IsMaximal known equations steps → IsSound known equations steps
  maximal_sound words solution steps maximal = rw (maximal_ends_at_solution words solution steps maximal) solution

  -- One sound maximal peeling is a solution, so all maximal peelings end at it.
  pub sound_agree :
      (one other : List Step) → IsMaximal known equations one → IsSound known equations one → IsMaximal known equations other
      → IsSound known equations other × (end_of known one ≡ end_of known other)
  sound_agree one other first sound second =
      (maximal_sound (end_of known one) sound other second, sym (maximal_ends_at_solution (end_of known one) sound other second))
