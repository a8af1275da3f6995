-- A peeling stays one where positions become known with its words, and where positions and equations are forgotten that
-- it needs no more.
use Rattle.std.proofs.Common.{◌≡◌, ◌≢◌, ◌⊎◌, ℕ, Bool, true, false, List, [], ◌∷◌, filter, Option, Some, None, IsSome, is_some, if◌then◌else◌, inl, inr, refl, sym, ap, ◌∙◌, ⊎_elim}
use Rattle.std.specs.List.{Contains}
use Rattle.std.specs.Option.{option_or}
use Rattle.fg_words.specs.declared.Word.{Word}
use Rattle.fg_words.specs.Word.{word_xor}
use Rattle.fg_peel.specs.Equation.{Equation, slots, others}
use Rattle.fg_peel.specs.Peeling.{Step, CanFollow, IsPeeling, after_step, end_of, given_word}
use Rattle.fg_peel.proofs.Lists.{Contains-here, Contains-there, others-element, same_or_not}
use Rattle.fg_peel.proofs.Sums.{sum_at-agree}
use Rattle.fg_peel.proofs.Peelings.{known_or_not, after_step-at, after_step-other, end_of-keeps}
use Rattle.fg_peel.proofs.Options.{value_of}

-- The steps at the positions that a test keeps.
abbrev pub kept_steps : (ℕ → Bool) → List Step → List Step
kept_steps keep = filter (λ step. keep step.position)

-- What is known where nothing was, or by the peeling's end at the positions that stay.
abbrev pub carried_word : (ℕ → Bool) → (ℕ → Option Word) → (ℕ → Option Word) → ℕ → Option Word
carried_word stays final more position = option_or (more position) (if stays position then final position else None)

module _ (equations more_equations : List Equation) (stays keep : ℕ → Bool) (final : ℕ → Option Word) where
  pub record Carries (known more : ℕ → Option Word) (steps : List Step) : Type 0 where
    -- a step that is kept is at a position that stays
    pub within : (q : ℕ) → keep q ≡ true → stays q ≡ true
    -- a position that stays keeps its word
    pub keeps : (q : ℕ) (w : Word) → stays q ≡ true → known q ≡ Some w → more q ≡ Some w
    -- what is known now agrees with the end
    pub agrees : (q : ℕ) (one other : Word) → more q ≡ Some one → final q ≡ Some other → one ≡ other
    -- the position of a step that is kept is still unknown
    pub unknown : (q : ℕ) → keep q ≡ true → known q ≡ None → more q ≡ None
    -- a position that stays, and whose step isn't kept, is known
    pub dropped : (q : ℕ) → stays q ≡ true → keep q ≡ false → IsSome (more q)
    -- a step that is kept has its equation, and its slots stay or are known
    pub listed : (step : Step) → Contains steps step → keep step.position ≡ true → Contains more_equations step.equation
    pub slots_known :
        (step : Step) → Contains steps step → keep step.position ≡ true
        → (o : ℕ) → Contains (slots step.equation) o → (stays o ≡ true) ⊎ IsSome (more o)

  module _ (known more : ℕ → Option Word) (step : Step) (steps : List Step) where
    module _
        (can : CanFollow known equations step) (peeling : IsPeeling (after_step known step) equations steps)
        (end : (q : ℕ) → end_of (after_step known step) steps q ≡ final q) (c : Carries known more (step ∷ steps)) where
      -- the word that the step gives is the end's
      at_end : final step.position ≡ Some (given_word known step)
      at_end = sym (end step.position)
          ∙ end_of-keeps (after_step known step) equations steps peeling step.position (given_word known step) (after_step-at known step)

      known_at_end : (q : ℕ) (w : Word) → known q ≡ Some w → q ≢ step.position → final q ≡ Some w
      known_at_end q w is n = sym (end q)
          ∙ end_of-keeps (after_step known step) equations steps peeling q w (after_step-other known step q n ∙ is)

      -- a position that is unknown after the step is another one
      not_here : (q : ℕ) → after_step known step q ≡ None → q ≢ step.position
      not_here q none same =
          let e : after_step known step step.position ≡ None = (rw same at none) in
          let s = after_step-at known step in
          (cc)

      -- The step isn't kept.
      drop_step : keep step.position ≡ false → Carries (after_step known step) more steps
      drop_step gone = record {
        within = c.within;
        keeps = λ q w stay is. ⊎_elim
            (λ same.
            let here : stays step.position ≡ true = (rw same at stay) in
            let u = value_of (more step.position) (c.dropped step.position here gone) in
            let equal : u.0 ≡ given_word known step = c.agrees step.position u.0 (given_word known step) u.1 at_end in
            let word : Some (given_word known step) ≡ Some w = sym (after_step-at known step) ∙ (rw same at is) in
            ap more same ∙ u.1 ∙ ap Some equal ∙ word)
            (λ n. c.keeps q w stay (sym (after_step-other known step q n) ∙ is))
            (same_or_not q step.position);
        agrees = c.agrees;
        unknown = λ q kept none. c.unknown q kept (sym (after_step-other known step q (not_here q none)) ∙ none);
        dropped = c.dropped;
        listed = λ s l. c.listed s (Contains-there step steps s l);
        slots_known = λ s l. c.slots_known s (Contains-there step steps s l);
      }

      -- The step is kept.
      module _ (kept : keep step.position ≡ true) where
        now_unknown : more step.position ≡ None
        now_unknown = c.unknown step.position kept can.unknown

        same_known : (o : ℕ) → Contains (slots step.equation) o → o ≢ step.position → more o ≡ known o
        same_known o slot n =
            let v = value_of (known o) (can.others_known o slot n) in
            ⊎_elim
            (λ stay. c.keeps o v.0 stay v.1 ∙ sym v.1)
            (λ k.
            let u = value_of (more o) k in
            let equal : u.0 ≡ v.0 = c.agrees o u.0 v.0 u.1 (known_at_end o v.0 v.1 n) in
            u.1 ∙ ap Some equal ∙ sym v.1)
            (c.slots_known step (Contains-here step steps) kept o slot)

        can_still : CanFollow more more_equations step
        can_still = record {
          listed = c.listed step (Contains-here step steps) kept;
          slot = can.slot;
          unknown = now_unknown;
          others_known = λ o slot n. (rw (same_known o slot n) (can.others_known o slot n));
        }

        same_word : given_word more step ≡ given_word known step
        same_word = ap (λ (w : Word). word_xor step.equation.parity w)
            (sum_at-agree more known (others step.position (slots step.equation)) (λ q l.
            let e = others-element step.position (slots step.equation) q l in same_known q e.0 e.1))

        after_at : after_step more step step.position ≡ Some (given_word known step)
        after_at = after_step-at more step ∙ ap Some same_word

        -- what the step leaves known
        still_known : (o : ℕ) → IsSome (more o) → IsSome (after_step more step o)
        still_known o k = ⊎_elim
            (λ same. ap is_some (ap (after_step more step) same ∙ after_at))
            (λ n. ap is_some (after_step-other more step o n) ∙ k)
            (same_or_not o step.position)

        keep_step : Carries (after_step known step) (after_step more step) steps
        keep_step = record {
          within = c.within;
          keeps = λ q w stay is. ⊎_elim
              (λ same. ap (after_step more step) same ∙ after_at ∙ sym (after_step-at known step) ∙ (rw same at is))
              (λ n. after_step-other more step q n ∙ c.keeps q w stay (sym (after_step-other known step q n) ∙ is))
              (same_or_not q step.position);
          agrees = λ q one other is ends. ⊎_elim
              (λ same.
              let here : Some (given_word known step) ≡ Some one = sym after_at ∙ (rw same at is) in
              let there : Some (given_word known step) ≡ Some other = sym at_end ∙ (rw same at ends) in
              (cc))
              (λ n. c.agrees q one other (sym (after_step-other more step q n) ∙ is) ends)
              (same_or_not q step.position);
          unknown = λ q kept_q none.
              let n = not_here q none in
              after_step-other more step q n ∙ c.unknown q kept_q (sym (after_step-other known step q n) ∙ none);
          dropped = λ q stay gone. still_known q (c.dropped q stay gone);
          listed = λ s l. c.listed s (Contains-there step steps s l);
          slots_known = λ s l kept_s o slot. ⊎_elim
              (λ stay. inl stay)
              (λ k. inr (still_known o k))
              (c.slots_known s (Contains-there step steps s l) kept_s o slot);
        }

        told_as_before : (q : ℕ) → carried_word stays final (after_step more step) q ≡ carried_word stays final more q
        told_as_before q = ⊎_elim
            (λ same. rw same (
            ap (λ (o : Option Word). option_or o (if stays step.position then final step.position else None)) after_at
            ∙ sym at_end
            ∙ sym (ap (λ (b : Bool). (if b then final step.position else None)) (c.within step.position kept))
            ∙ sym (ap (λ (o : Option Word). option_or o (if stays step.position then final step.position else None)) now_unknown)))
            (λ n. ap (λ (o : Option Word). option_or o (if stays q then final q else None)) (after_step-other more step q n))
            (same_or_not q step.position)

  -- At the end nothing but what is known is told.
  told_known :
      (known more : ℕ → Option Word) → ((q : ℕ) → known q ≡ final q) → Carries known more []
      → (q : ℕ) → more q ≡ carried_word stays final more q
  told_known known more end c q = go (more q) refl
    where
      rest : (b : Bool) → stays q ≡ b → more q ≡ None → None ≡ (if b then final q else None)
      rest false e none = refl
      rest true e none = ⊎_elim
          (λ k.
          let v = value_of (known q) k in
          let s : more q ≡ Some v.0 = c.keeps q v.0 e v.1 in
          absurd (cc))
          (λ unknown. sym unknown ∙ end q)
          (known_or_not (known q))

      go : (o : Option Word) → more q ≡ o → o ≡ option_or o (if stays q then final q else None)
      go (Some w) e = refl
      go None e = rest (stays q) refl e

  pub carried :
      (known more : ℕ → Option Word) (steps : List Step) → IsPeeling known equations steps
      → ((q : ℕ) → end_of known steps q ≡ final q) → Carries known more steps
      → IsPeeling more more_equations (kept_steps keep steps)
      × ((q : ℕ) → end_of more (kept_steps keep steps) q ≡ carried_word stays final more q)
  carried known more [] peeling end c = (tt, told_known known more end c)
  carried known more (step ∷ steps) peeling end c = go (keep step.position) refl
      (λ gone. carried (after_step known step) more steps peeling.1 end (drop_step known more step steps peeling.0 peeling.1 end c gone))
      (λ kept. carried (after_step known step) (after_step more step) steps peeling.1 end
      (keep_step known more step steps peeling.0 peeling.1 end c kept))
    where
      go :
          (b : Bool) → keep step.position ≡ b
          → (keep step.position ≡ false → IsPeeling more more_equations (kept_steps keep steps)
          × ((q : ℕ) → end_of more (kept_steps keep steps) q ≡ carried_word stays final more q))
          → (keep step.position ≡ true → IsPeeling (after_step more step) more_equations (kept_steps keep steps)
          × ((q : ℕ) → end_of (after_step more step) (kept_steps keep steps) q ≡ carried_word stays final (after_step more step) q))
          → IsPeeling more more_equations (kept_steps keep (step ∷ steps))
          × ((q : ℕ) → end_of more (kept_steps keep (step ∷ steps)) q ≡ carried_word stays final more q)
      go false e without with_it = rw e (without e)
      go true e without with_it =
          let rest = with_it e in
          rw e (
            (can_still known more step steps peeling.0 peeling.1 end c e, rest.0),
            λ q. rest.1 q ∙ told_as_before known more step steps peeling.0 peeling.1 end c e q,
          )
