-- What a play leaves.
use Rattle.std.proofs.Common.{◌≡◌, ◌+◌, ◌<◌, ◌≤◌, ◌&&◌, ℕ, cond, ltb, leb, Option, Some, None, IsSome, sym, ap, subst, ◌∙◌, ⊎_elim, arith, ltb-true, ltb-false, leb-true, lt-ltb, le-ltb, le-leb}
use Rattle.std.proofs.lemmas.Bool.{cases_lt, and_parts, and_from, cond-true, cond-false}
use Rattle.std.specs.List.{Contains}
use Rattle.std.specs.FinMap.{get}
use Rattle.fg_words.specs.declared.Word.{Word}
use Rattle.fg_words.specs.Word.{IsMedia}
use Rattle.fg_peel.specs.Equation.{Equation}
use Rattle.fg_peel.proofs.Options.{none_or_some, value_of, has_value, chosen, passed_over}
use Rattle.fg_playout.specs.declared.reply.Outcome.{Outcome}
use Rattle.fg_playout.specs.declared.reply.Outcome.TheVariants.{Repaired, Inconsistent}
use Rattle.fg_playout.specs.State.{State, known, live_equations}
use Rattle.fg_playout.specs.Admission.{kept_count}
use Rattle.fg_playout.specs.Solution.{InClosure, given, derived}
use Rattle.fg_playout.specs.Play.{Play, Decides, IsPlay}
use Rattle.fg_playout.proofs.Equations.{serial_of, live_at}
use Rattle.fg_playout.proofs.Orderly.{IsOrderly, known_below, known_ahead, known_media}

-- The words of a play are media words.
pub words_are_media :
    (old : State) (outcome : Outcome) (words : ℕ → Option Word) → IsOrderly old → Decides old outcome words
    → (position : ℕ) (word : Word) → words position ≡ Some word → IsMedia word
words_are_media old Repaired words orderly solution position word is = ⊎_elim
    (λ none. solution.media position word none is)
    (λ some.
    let same : words position ≡ Some some.0 = solution.agrees position some.0 some.1 in
    let e : some.0 ≡ word = (cc) in
    subst IsMedia e (known_media old orderly position some.0 some.1))
    (none_or_some (known old position))
words_are_media old Inconsistent words orderly decides position word is =
    orderly.media position word (sym (ap (λ (f : ℕ → Option Word). f position) decides.1) ∙ is)

-- They are at positions of the closure.
pub words_are_inside :
    (old : State) (outcome : Outcome) (words : ℕ → Option Word) → Decides old outcome words
    → (position : ℕ) → old.mark ≤ position → IsSome (words position) → InClosure old position
words_are_inside old Repaired words solution position ahead some = (solution.domain position).0 some
words_are_inside old Inconsistent words decides position ahead some =
    let received : IsSome (get old.media position) = subst (λ (f : ℕ → Option Word). IsSome (f position)) decides.1 some in
    given (subst (λ (o : Option Word). IsSome o) (sym (known_ahead old position ahead)) received)

module _ (count : ℕ) (old : State) (play : Play) (new : State) (plays : IsPlay count old play new) where
  pub mark_rises : old.mark ≤ new.mark
  mark_rises = let m = plays.mark in omega (arith, m)

  -- What is kept after the play: it lies near before the new mark, and was kept before, or is a word of the play.
  pub kept_near : (position : ℕ) (word : Word) → get new.kept position ≡ Some word → (position < new.mark) × (new.mark ≤ position + kept_count)
  kept_near position word is =
      let tested = chosen (ltb position new.mark && leb new.mark (position + kept_count))
      (cond (ltb position old.mark) (get old.kept position) (plays.words position)) word (sym (plays.kept position) ∙ is) in
      let both = and_parts (ltb position new.mark) (leb new.mark (position + kept_count)) tested.0 in
      (ltb-true position new.mark both.0, leb-true new.mark (position + kept_count) both.1)

  pub kept_from : (position : ℕ) (word : Word) → get new.kept position ≡ Some word
      → cond (ltb position old.mark) (get old.kept position) (plays.words position) ≡ Some word
  kept_from position word is =
      (chosen (ltb position new.mark && leb new.mark (position + kept_count))
      (cond (ltb position old.mark) (get old.kept position) (plays.words position)) word (sym (plays.kept position) ∙ is)).1

  pub kept_before : (position : ℕ) (word : Word) → position < old.mark → get new.kept position ≡ Some word → get old.kept position ≡ Some word
  kept_before position word below is =
      sym (cond-true (ltb position old.mark) (get old.kept position) (plays.words position) (lt-ltb position old.mark below))
      ∙ kept_from position word is

  pub kept_shown : (position : ℕ) (word : Word) → old.mark ≤ position → get new.kept position ≡ Some word → plays.words position ≡ Some word
  kept_shown position word ahead is =
      sym (cond-false (ltb position old.mark) (get old.kept position) (plays.words position) (le-ltb position old.mark ahead))
      ∙ kept_from position word is

  -- And near before the new mark all of that is kept.
  pub kept_is : (position : ℕ) → position < new.mark → new.mark ≤ position + kept_count
      → get new.kept position ≡ cond (ltb position old.mark) (get old.kept position) (plays.words position)
  kept_is position below near =
      plays.kept position
      ∙ cond-true (ltb position new.mark && leb new.mark (position + kept_count))
      (cond (ltb position old.mark) (get old.kept position) (plays.words position)) None
      (and_from (ltb position new.mark) (leb new.mark (position + kept_count)) (lt-ltb position new.mark below) (le-leb new.mark (position + kept_count) near))

  -- What is received after the play was so before, and lies past the new mark.
  pub received_before : (position : ℕ) (word : Word) → get new.media position ≡ Some word → (new.mark ≤ position) × (get old.media position ≡ Some word)
  received_before position word is =
      let tested = passed_over (ltb position new.mark) (get old.media position) word (sym (plays.media position) ∙ is) in
      (ltb-false position new.mark tested.0, tested.1)

  pub received_is : (position : ℕ) → new.mark ≤ position → get new.media position ≡ get old.media position
  received_is position ahead =
      plays.media position ∙ cond-false (ltb position new.mark) None (get old.media position) (le-ltb position new.mark ahead)

  pub kept_is_media : IsOrderly old → (position : ℕ) (word : Word) → get new.kept position ≡ Some word → IsMedia word
  kept_is_media orderly position word is = ⊎_elim
      (λ below. orderly.kept position word (kept_before position word below is))
      (λ ahead. words_are_media old play.outcome plays.words orderly plays.decides position word (kept_shown position word ahead is))
      (cases_lt position old.mark)

  pub orderly_after_play : IsOrderly old → IsOrderly new
  orderly_after_play orderly = record {
    kept = kept_is_media orderly;
    media = λ p w is. orderly.media p w (received_before p w is).1;
    some_offset = λ s l is. orderly.some_offset s l ((plays.equations s l).0 is).0;
    based = λ s l is. ((plays.equations s l).0 is).2.based;
    apart = λ s t one other is is'. orderly.apart s t one other ((plays.equations s one).0 is).0 ((plays.equations t other).0 is').0;
  }

  -- A live equation was live before.
  pub live_before : (equation : Equation) → Contains (live_equations new) equation → Contains (live_equations old) equation
  live_before equation listed =
      let r = serial_of new equation listed in
      subst (λ (e : Equation). Contains (live_equations old) e) r.3 (live_at old r.0 r.1 ((plays.equations r.0 r.1).0 r.2).0)

  -- What is known after the play followed before it.
  known_followed : (position : ℕ) → IsSome (known new position) → InClosure old position
  known_followed position some = ⊎_elim
      (λ below.
      let v = value_of (get new.kept position) (subst (λ (o : Option Word). IsSome o) (known_below new position below) some) in
      ⊎_elim
      (λ before. given (has_value (known old position) v.0 (known_below old position before ∙ kept_before position v.0 before v.1)))
      (λ ahead. words_are_inside old play.outcome plays.words plays.decides position ahead
      (has_value (plays.words position) v.0 (kept_shown position v.0 ahead v.1)))
      (cases_lt position old.mark))
      (λ ahead.
      let v = value_of (get new.media position) (subst (λ (o : Option Word). IsSome o) (known_ahead new position ahead) some) in
      let rises = mark_rises in
      given (has_value (known old position) v.0
      (known_ahead old position (omega (arith, rises, ahead)) ∙ (received_before position v.0 v.1).1)))
      (cases_lt position new.mark)

  pub followed_before : (position : ℕ) → InClosure new position → InClosure old position
  followed_before position (given some) = known_followed position some
  followed_before position (derived equation listed slot ahead others) =
      let rises = mark_rises in
      derived equation (live_before equation listed) slot (omega (arith, rises, ahead)) (λ q c n. followed_before q (others q c n))
