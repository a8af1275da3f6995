-- A desk all of whose words and equations are true makes a true play, and is such a desk after it.
use Rattle.std.proofs.Common.{◌≡◌, ◌+◌, ◌<◌, ◌≤◌, ◌&&◌, ℕ, cond, ltb, leb, length, get_or, Option, Some, refl, sym, ap, subst, ◌∙◌, ⊎_elim, arith, lt-ltb, le-ltb}
use Rattle.std.proofs.lemmas.Bool.{cases_lt, cond-true, cond-false}
use Rattle.std.specs.List.{Contains}
use Rattle.std.specs.FinMap.{get}
use Rattle.fg_words.specs.declared.Word.{Word}
use Rattle.fg_peel.specs.Equation.{Equation, AreMedia, Keeps, IsSettled}
use Rattle.fg_peel.specs.Laws.{AreTrue, TruthIsSolvable, SolutionsAreTrue}
use Rattle.fg_playout.specs.declared.reply.Outcome.{Outcome}
use Rattle.fg_playout.specs.declared.reply.Outcome.TheVariants.{Repaired, Inconsistent}
use Rattle.fg_playout.specs.State.{State, known, live_equations}
use Rattle.fg_playout.specs.Admission.{kept_count}
use Rattle.fg_playout.specs.Play.{Play, Shown, Decides, IsPlay, nothing_shown, shown_at}
use Rattle.fg_playout.specs.Facts.{Holds}
use Rattle.fg_playout.specs.Laws.{LiveStandUnderSerials, SolutionsArePeelings}
use Rattle.fg_peel.proofs.Options.{chosen, passed_over}
use Rattle.fg_playout.proofs.Orderly.{known_ahead, known_below}

-- All that is known on the desk is true, and so are its live equations.
pub record IsTrueWindow (truth : ℕ → Option Word) (desk : State) : Type 0 where
  pub known_true : Keeps (known desk) truth
  pub settled : (equation : Equation) → Contains (live_equations desk) equation → IsSettled truth equation

-- A play is repaired and shows the truth.
pub record IsTruePlay (truth : ℕ → Option Word) (play : Play) : Type 0 where
  pub repaired : play.outcome ≡ Repaired
  pub shows :
      (i : ℕ) (word : Word) → i < length play.shown → (get_or play.shown i nothing_shown).word ≡ Some word
      → truth (play.first + i) ≡ Some word

module _
    (stand : LiveStandUnderSerials) (peelings : SolutionsArePeelings) (solvable : TruthIsSolvable) (found : SolutionsAreTrue)
    (truth : ℕ → Option Word) (media : AreMedia truth) where
  words_are_true :
      (desk : State) → Holds desk → IsTrueWindow truth desk → AreTrue (known desk) (live_equations desk) truth
  words_are_true desk holds is = record {
    media = media;
    known_true = is.known_true;
    settled = is.settled;
    some_offset = λ e listed.
        let r = (stand desk e).0 listed in
        subst (λ (e : Equation). 1 ≤ e.offset) r.3 (holds.live r.0 r.1 r.2).shape.some_offset;
  }

  -- It has a solution, and each has true words alone.
  decides_truth :
      (desk : State) (outcome : Outcome) (words : ℕ → Option Word) → Holds desk → IsTrueWindow truth desk
      → Decides desk outcome words → (outcome ≡ Repaired) × Keeps words truth
  decides_truth desk Repaired words holds is solution = (
    refl,
    found (known desk) (live_equations desk) truth (words_are_true desk holds is) words ((peelings desk holds words).0 solution),
  )
  decides_truth desk Inconsistent words holds is decides =
      let s = solvable (known desk) (live_equations desk) truth (words_are_true desk holds is) in
      absurd (decides.0 s.0 ((peelings desk holds s.0).1 s.1))

  module _
      (count : ℕ) (old : State) (play : Play) (new : State) (holds : Holds old) (is : IsTrueWindow truth old)
      (plays : IsPlay count old play new) where
    words_true : Keeps plays.words truth
    words_true = (decides_truth old play.outcome plays.words holds is plays.decides).1

    pub play_is_true : IsTruePlay truth play
    play_is_true = record {
      repaired = (decides_truth old play.outcome plays.words holds is plays.decides).0;
      shows = λ i word below shown.
          let long = plays.length_is in
          let at : get_or play.shown i nothing_shown ≡ shown_at old plays.words (old.mark + i) =
          plays.shows i (omega (arith, long, below)) in
          ap (λ (first : ℕ). truth (first + i)) plays.first
          ∙ words_true (old.mark + i) word (sym (ap (λ (s : Shown). s.word) at) ∙ shown);
    }

    kept_true : (position : ℕ) (word : Word) → get new.kept position ≡ Some word → truth position ≡ Some word
    kept_true position word kept =
        let from = (chosen (ltb position new.mark && leb new.mark (position + kept_count))
        (cond (ltb position old.mark) (get old.kept position) (plays.words position)) word (sym (plays.kept position) ∙ kept)).1 in
        ⊎_elim
        (λ below. is.known_true position word
        (known_below old position below
        ∙ sym (cond-true (ltb position old.mark) (get old.kept position) (plays.words position) (lt-ltb position old.mark below))
        ∙ from))
        (λ ahead. words_true position word
        (sym (cond-false (ltb position old.mark) (get old.kept position) (plays.words position) (le-ltb position old.mark ahead))
        ∙ from))
        (cases_lt position old.mark)

    -- What is received after the play was so before it.
    pub received_before :
        (position : ℕ) (word : Word) → new.mark ≤ position → known new position ≡ Some word → known old position ≡ Some word
    received_before position word ahead is_known =
        let mark = plays.mark in
        known_ahead old position (omega (arith, mark, ahead))
        ∙ (passed_over (ltb position new.mark) (get old.media position) word
        (sym (plays.media position) ∙ sym (known_ahead new position ahead) ∙ is_known)).1

    pub true_after_play : IsTrueWindow truth new
    true_after_play = record {
      known_true = λ position word is_known. ⊎_elim
          (λ below. kept_true position word (sym (known_below new position below) ∙ is_known))
          (λ ahead. is.known_true position word (received_before position word ahead is_known))
          (cases_lt position new.mark);
      settled = λ e listed.
          let r = (stand new e).0 listed in
          is.settled e ((stand old e).1 (r.0, r.1, ((plays.equations r.0 r.1).0 r.2).0, r.3));
    }
