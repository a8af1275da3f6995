-- What a play makes of what is known, live and solved.
use Rattle.std.proofs.Common.{◌≡◌, ◌+◌, ◌<◌, ◌≤◌, ◌&&◌, ℕ, cond, ltb, leb, Option, Some, None, IsSome, is_some, refl, sym, ap, subst, ◌∙◌, ⊎_elim, arith, lt-ltb, le-ltb, le-leb}
use Rattle.std.proofs.lemmas.Bool.{cases_lt, and_parts, and_from, cond-true, cond-false}
use Rattle.std.specs.FinMap.{get}
use Rattle.fg_words.specs.declared.Word.{Word}
use Rattle.fg_peel.specs.Equation.{Keeps}
use Rattle.fg_peel.specs.Laws.{SolutionsKeepPeelings}
use Rattle.fg_peel.proofs.Options.{none_has_no_value, same_functions}
use Rattle.fg_peel.proofs.Maps.{in_empty}
use Rattle.fg_playout.specs.declared.reply.Outcome.{Outcome}
use Rattle.fg_playout.specs.declared.reply.Outcome.TheVariants.{Repaired, Inconsistent}
use Rattle.fg_playout.specs.State.{State, Live, Words, known, live_equations}
use Rattle.fg_playout.specs.Admission.{kept_count}
use Rattle.fg_playout.specs.Solution.{IsSolution}
use Rattle.fg_playout.specs.Play.{Play, Decides, IsPlay}
use Rattle.fg_playout.specs.Facts.{Holds}
use Rattle.fg_playout.specs.Laws.{SolvedStaysPeeled, SolutionsArePeelings, StepsAreAhead, LiveStandUnderSerials}
use Rattle.fg_core.specs.Below.{PlayLaws}
use Rattle.fg_desk.specs.Contents.{Contents, AreSolved, ChangesInPlay, IsSolvedAfter, known_in}
use Rattle.fg_playout.proofs.Orderly.{orderly_from_holds, known_below, known_ahead, admissible}
use Rattle.fg_core.proofs.Known.{known_alone, nothing_solved, kept_below}
use Rattle.fg_core.proofs.Next.{IsNext, AreBareKept}

module _ (count : ℕ) (old : State) (play : Play) (new : State) (plays : IsPlay count old play new) where
  pub mark_rises : old.mark ≤ new.mark
  mark_rises = let m = plays.mark in omega (arith, m)

  -- What is known ahead of the new mark is what was.
  pub known_stays : (q : ℕ) → new.mark ≤ q → known new q ≡ known old q
  known_stays q ahead =
      let rises = mark_rises in
      known_ahead new q ahead ∙ plays.media q
      ∙ cond-false (ltb q new.mark) None (get old.media q) (le-ltb q new.mark ahead)
      ∙ sym (known_ahead old q (omega (arith, ahead, rises)))

  -- At the 100 positions before it what was kept and the words of the play are kept.
  pub kept_is :
      (q : ℕ) → q < new.mark → new.mark ≤ q + kept_count
      → get new.kept q ≡ cond (ltb q old.mark) (get old.kept q) (plays.words q)
  kept_is q below near =
      plays.kept q
      ∙ cond-true (ltb q new.mark && leb new.mark (q + kept_count))
      (cond (ltb q old.mark) (get old.kept q) (plays.words q)) None
      (and_from (ltb q new.mark) (leb new.mark (q + kept_count)) (lt-ltb q new.mark below) (le-leb new.mark (q + kept_count) near))

  pub was_live : (serial : ℕ) (live : Live) → get new.equations serial ≡ Some live → get old.equations serial ≡ Some live
  was_live serial live is = ((plays.equations serial live).0 is).0

  pub same_admitted : new.admitted ≡ old.admitted
  same_admitted = ap (λ (s : State). s.admitted) plays.rest

-- What is bare after a play is kept.
pub bare_is_kept : (old new : Contents) (outcome : Outcome) → ChangesInPlay outcome old new → AreBareKept new
bare_is_kept old new outcome changes p is =
    (and_parts (is_some (get new.state.kept p)) _ (sym (changes.bare p) ∙ is)).0

module _
    (count : ℕ) (old new : Contents) (play : Play) (holds : Holds old.state) (solved : AreSolved old)
    (plays : IsPlay count old.state play new.state) where
  -- An inconsistent play withdraws all that was solved.
  is_next_inconsistent : ChangesInPlay Inconsistent old new → IsNext old new
  is_next_inconsistent changes =
      let m = mark_rises count old.state play new.state plays in
      let a = same_admitted count old.state play new.state plays in
      let e = changes.epoch in
      record {
        mark = m;
        admitted = omega (arith, a);
        epoch = omega (arith, e);
        one_more = omega (arith, e);
        words = λ same. absurd (omega (arith, same, e));
        lives = λ serial live _ is. was_live count old.state play new.state plays serial live is;
        solved = nothing_solved new (λ q. ap (λ (w : Words). get w q) changes.solved ∙ in_empty q);
        bare = bare_is_kept old new Inconsistent changes;
      }

  module _ (changes : IsSolvedAfter Repaired old new) where
    solved_behind : (q : ℕ) → q < new.state.mark → get new.solved q ≡ None
    solved_behind q below =
        changes q ∙ cond-true (ltb q new.state.mark) None (get old.solved q) (lt-ltb q new.state.mark below)

    solved_stays : (q : ℕ) → new.state.mark ≤ q → get new.solved q ≡ get old.solved q
    solved_stays q ahead =
        changes q ∙ cond-false (ltb q new.state.mark) None (get old.solved q) (le-ltb q new.state.mark ahead)

    -- Behind the new mark what is known is kept, and ahead of it it is what was.
    known_behind : (q : ℕ) → q < new.state.mark → known_in new q ≡ known new.state q
    known_behind q below = known_alone new q (solved_behind q below)

    stays_known : (q : ℕ) → new.state.mark ≤ q → known_in new q ≡ known_in old q
    stays_known q ahead =
        let one = known_stays count old.state play new.state plays q ahead in
        let two = solved_stays q ahead in
        cc

    solved_after : SolvedStaysPeeled → play.outcome ≡ Repaired → AreSolved new
    solved_after stays repaired =
        let steps = solved.peeled.0 in
        let peeled = stays count old.state new.state play steps holds plays repaired solved.peeled.1 in
        record {
          peeled = (
            _,
            peeled.0,
            same_functions (known_in new) _ (λ q. ⊎_elim
                (λ below. known_behind q below ∙ sym (peeled.2 q below))
                (λ ahead. stays_known q ahead ∙ ap (λ (f : ℕ → Option Word). f q) solved.peeled.2 ∙ sym (peeled.1 q ahead))
                (cases_lt q new.state.mark)),
          );
          beside = λ q some. ⊎_elim
              (λ below. absurd (none_has_no_value (get new.solved q) (solved_behind q below) some))
              (λ ahead.
              known_stays count old.state play new.state plays q ahead
              ∙ solved.beside q (subst (λ (o : Option Word). IsSome o) (solved_stays q ahead) some))
              (cases_lt q new.state.mark);
        }

    module _ (steps_are_ahead : StepsAreAhead) (keeps : Keeps (known_in old) plays.words) where
      -- A word that was known is known, as long as it isn't more than 100 positions before the mark.
      words_after :
          (q : ℕ) (word : Word) → new.state.mark ≤ q + kept_count → known_in old q ≡ Some word → known_in new q ≡ Some word
      words_after q word near is = ⊎_elim
          (λ below.
          known_behind q below ∙ known_below new.state q below
          ∙ kept_is count old.state play new.state plays q below near
          ∙ ⊎_elim
          (λ before.
          cond-true (ltb q old.state.mark) (get old.state.kept q) (plays.words q) (lt-ltb q old.state.mark before)
          ∙ sym (kept_below steps_are_ahead old holds solved q before) ∙ is)
          (λ past.
          cond-false (ltb q old.state.mark) (get old.state.kept q) (plays.words q) (le-ltb q old.state.mark past)
          ∙ keeps q word is)
          (cases_lt q old.state.mark))
          (λ ahead. stays_known q ahead ∙ is)
          (cases_lt q new.state.mark)

-- What a repaired play knows is what a solution has.
module _
    (kept : SolutionsKeepPeelings) (solutions : SolutionsArePeelings) (live_stand : LiveStandUnderSerials) (old : Contents)
    (holds : Holds old.state) (solved : AreSolved old) where
  keeps_known : (words : ℕ → Option Word) → IsSolution old.state words → Keeps (known_in old) words
  keeps_known words solution =
      subst (λ (f : ℕ → Option Word). Keeps f words) (sym solved.peeled.2)
      (kept (known old.state) (live_equations old.state) (admissible old.state (orderly_from_holds old.state holds)) words
      ((solutions old.state holds words).0 solution) solved.peeled.0 solved.peeled.1)

pub play_is_next :
    PlayLaws → (count : ℕ) (old new : Contents) (play : Play) → Holds old.state → AreSolved old
    → IsPlay count old.state play new.state → ChangesInPlay play.outcome old new → IsNext old new
play_is_next laws count old new play holds solved plays changes = go play.outcome refl plays.decides changes
  where
    go : (outcome : Outcome) → play.outcome ≡ outcome → Decides old.state outcome plays.words → ChangesInPlay outcome old new
        → IsNext old new
    go Repaired is solution changes =
        let m = mark_rises count old.state play new.state plays in
        let a = same_admitted count old.state play new.state plays in
        let e = changes.epoch in
        let keeps = keeps_known laws.kept laws.solutions laws.live_stand old holds solved plays.words solution in
        record {
          mark = m;
          admitted = omega (arith, a);
          epoch = omega (arith, e);
          one_more = omega (arith, e);
          words = λ _ q word near known.
              words_after count old new play holds solved plays changes.solved laws.steps_are_ahead keeps q word near known;
          lives = λ serial live _ is. was_live count old.state play new.state plays serial live is;
          solved = solved_after count old new play holds solved plays changes.solved laws.stays is;
          bare = bare_is_kept old new Repaired changes;
        }
    go Inconsistent is decides changes = is_next_inconsistent count old new play holds solved plays changes
