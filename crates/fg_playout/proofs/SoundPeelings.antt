-- A desk's peelings are those of its words and equations, and a play shows what the sound ones give.
use Rattle.std.proofs.Common.{◌≡◌, ◌++◌, ◌==◌, ℕ, List, [], ◌∷◌, Option, Some, IsSome, refl, sym, subst, ◌∙◌, ⊎_elim}
use Rattle.std.proofs.lemmas.Bool.{cases_lt, cond-true}
use Rattle.std.proofs.lemmas.Bool.Decides.{Decides-eqb}
use Rattle.std.proofs.lemmas.Option.{none-some}
use Rattle.std.specs.FinMap.{get}
use Rattle.fg_words.specs.declared.Word.{Word}
use Rattle.fg_peel.specs.Equation.{Keeps}
use Rattle.fg_peel.specs.Laws.{MaximalPeelingsEndAtSolution, PeelingsFillTheClosure, SoundWhereSolvable}
use Rattle.fg_peel.specs.Peeling.{Step, CanFollow, IsPeeling, IsMaximal, given_word, after_step, end_of}
use Rattle.fg_peel.proofs.Options.{value_of, has_value}
use Rattle.fg_playout.specs.declared.reply.Outcome.{Outcome}
use Rattle.fg_playout.specs.declared.reply.Outcome.TheVariants.{Repaired, Inconsistent}
use Rattle.fg_playout.specs.State.{State, known, live_equations}
use Rattle.fg_playout.specs.Solution.{IsSolution}
use Rattle.fg_playout.specs.Play.{Play, Decides, IsPlay}
use Rattle.fg_playout.specs.SoundPeelings.{CanBeMade, AreStepsFrom, IsPeelingOf, end_on, IsMaximalOn, IsSoundOn, DesksAreAdmissible, PeelingsAreOfWords, MaximalAreOfWords, SoundAreOfWords, WindowShows, PlaysShowSoundPeelings}
use Rattle.fg_playout.proofs.Orderly.{IsOrderly, orderly_from_holds, known_base, admissible}
use Rattle.fg_playout.proofs.Peeled.{after_step_keeps, solution_to_peel, solution_from_peel}

-- Steps, and one more of them.

step_to_peel : (desk : State) (words : ℕ → Option Word) (step : Step) → CanBeMade desk words step → CanFollow words (live_equations desk) step
step_to_peel desk words step can =
    record { listed = can.live; slot = can.slot; unknown = can.unknown; others_known = can.others_known }

steps_to_peel : (desk : State) (words : ℕ → Option Word) (steps : List Step) → AreStepsFrom desk words steps → IsPeeling words (live_equations desk) steps
steps_to_peel desk words [] are = tt
steps_to_peel desk words (step ∷ steps) are = (step_to_peel desk words step are.0, steps_to_peel desk (after_step words step) steps are.1)

one_more_step :
    (desk : State) (words : ℕ → Option Word) (steps : List Step) (step : Step) → AreStepsFrom desk words steps
    → CanBeMade desk (end_of words steps) step → AreStepsFrom desk words (steps ++ step ∷ [])
one_more_step desk words [] step are can = (can, tt)
one_more_step desk words (first ∷ steps) step are can = (are.0, one_more_step desk (after_step words first) steps step are.1 can)

last_step :
    (desk : State) (words : ℕ → Option Word) (steps : List Step) (step : Step)
    → AreStepsFrom desk words (steps ++ step ∷ []) → CanBeMade desk (end_of words steps) step
last_step desk words [] step are = are.0
last_step desk words (first ∷ steps) step are = last_step desk (after_step words first) steps step are.1

-- Its position is known then.
last_known : (words : ℕ → Option Word) (steps : List Step) (step : Step) → IsSome (end_of words (steps ++ step ∷ []) step.position)
last_known words [] step = has_value (after_step words step step.position) (given_word words step)
    (cond-true (step.position == step.position) (Some (given_word words step)) (words step.position) ((Decides-eqb step.position step.position).1 refl))
last_known words (first ∷ steps) step = last_known (after_step words first) steps step

module _ (desk : State) (orderly : IsOrderly desk) where
  -- Where at least the known words are known, a step lies ahead of the mark.
  step_from_peel :
      (words : ℕ → Option Word) (step : Step) → Keeps (known desk) words → CanFollow words (live_equations desk) step
      → CanBeMade desk words step
  step_from_peel words step keeps can = record {
    live = can.listed;
    slot = can.slot;
    ahead = ⊎_elim
        (λ below.
        let v = value_of (known desk step.position) (known_base desk orderly step.equation can.listed step.position can.slot below) in
        absurd (none-some v.0 (sym can.unknown ∙ keeps step.position v.0 v.1)))
        (λ ahead. ahead)
        (cases_lt step.position desk.mark);
    unknown = can.unknown;
    others_known = can.others_known;
  }

  steps_from_peel :
      (words : ℕ → Option Word) (steps : List Step) → Keeps (known desk) words → IsPeeling words (live_equations desk) steps
      → AreStepsFrom desk words steps
  steps_from_peel words [] keeps peeling = tt
  steps_from_peel words (step ∷ steps) keeps peeling = (
    step_from_peel words step keeps peeling.0,
    steps_from_peel (after_step words step) steps
        (λ q w is. after_step_keeps words step peeling.0.unknown q w (keeps q w is)) peeling.1,
  )

  peeling_from_peel : (steps : List Step) → IsPeeling (known desk) (live_equations desk) steps → IsPeelingOf desk steps
  peeling_from_peel steps peeling = steps_from_peel (known desk) steps (λ q w is. is) peeling

  -- A peeling keeps the known words.
  end_keeps : (words : ℕ → Option Word) (steps : List Step) → Keeps (known desk) words → IsPeeling words (live_equations desk) steps → Keeps (known desk) (end_of words steps)
  end_keeps words [] keeps peeling = keeps
  end_keeps words (step ∷ steps) keeps peeling =
      end_keeps (after_step words step) steps (λ q w is. after_step_keeps words step peeling.0.unknown q w (keeps q w is)) peeling.1

  maximal_to_peel : (steps : List Step) → IsMaximalOn desk steps → IsMaximal (known desk) (live_equations desk) steps
  maximal_to_peel steps maximal =
      let peeling = steps_to_peel desk (known desk) steps maximal.peeling in
      record {
        peeling = peeling;
        no_more = λ step can. maximal.no_more step
            (one_more_step desk (known desk) steps step maximal.peeling
            (step_from_peel (end_on desk steps) step (end_keeps (known desk) steps (λ q w is. is) peeling) can));
      }

  maximal_from_peel : (steps : List Step) → IsMaximal (known desk) (live_equations desk) steps → IsMaximalOn desk steps
  maximal_from_peel steps maximal = record {
    peeling = peeling_from_peel steps maximal.peeling;
    no_more = λ step more. maximal.no_more step
        (step_to_peel desk (end_on desk steps) step (last_step desk (known desk) steps step more));
  }

pub desks_are_admissible : DesksAreAdmissible
desks_are_admissible desk holds = admissible desk (orderly_from_holds desk holds)

pub peelings_are_of_words : PeelingsAreOfWords
peelings_are_of_words desk steps holds =
    (steps_to_peel desk (known desk) steps, peeling_from_peel desk (orderly_from_holds desk holds) steps)

pub maximal_are_of_words : MaximalAreOfWords
maximal_are_of_words desk steps holds =
    let orderly = orderly_from_holds desk holds in
    (maximal_to_peel desk orderly steps, maximal_from_peel desk orderly steps)

pub sound_are_of_words : SoundAreOfWords
sound_are_of_words desk steps holds =
    let orderly = orderly_from_holds desk holds in
    (solution_to_peel desk orderly (end_on desk steps), solution_from_peel desk orderly (end_on desk steps))

-- Plays

abbrev HasSolution : State → Type 0
HasSolution desk = (words : ℕ → Option Word) × IsSolution desk words

-- The words of a play that is repaired solve its desk, and else they are those received, and none do.
repaired_solves : (desk : State) (outcome : Outcome) (words : ℕ → Option Word) → outcome ≡ Repaired → Decides desk outcome words → IsSolution desk words
repaired_solves desk Repaired words is decides = decides
repaired_solves desk Inconsistent words is decides = absurd (cc)

solved_is_repaired : (desk : State) (outcome : Outcome) (words : ℕ → Option Word) → Decides desk outcome words → HasSolution desk → outcome ≡ Repaired
solved_is_repaired desk Repaired words decides solved = refl
solved_is_repaired desk Inconsistent words decides solved = absurd (decides.0 solved.0 solved.1)

inconsistent_has_none : (desk : State) (outcome : Outcome) (words : ℕ → Option Word) → outcome ≡ Inconsistent → Decides desk outcome words → HasSolution desk → ⊥
inconsistent_has_none desk Repaired words is decides solved = absurd (cc)
inconsistent_has_none desk Inconsistent words is decides solved = decides.0 solved.0 solved.1

unsolved_is_inconsistent : (desk : State) (outcome : Outcome) (words : ℕ → Option Word) → Decides desk outcome words → (HasSolution desk → ⊥) → outcome ≡ Inconsistent
unsolved_is_inconsistent desk Repaired words decides none = absurd (none (words, decides))
unsolved_is_inconsistent desk Inconsistent words decides none = refl

inconsistent_is_received : (desk : State) (outcome : Outcome) (words : ℕ → Option Word) → outcome ≡ Inconsistent → Decides desk outcome words → words ≡ get desk.media
inconsistent_is_received desk Repaired words is decides = absurd (cc)
inconsistent_is_received desk Inconsistent words is decides = decides.1

window_shows :
    (count : ℕ) (desk new : State) (play : Play) (is : IsPlay count desk play new) (words : ℕ → Option Word) → is.words ≡ words
    → WindowShows desk count play words
window_shows count desk new play is words same = subst (λ (w : ℕ → Option Word). WindowShows desk count play w) same
    (record { first = is.first; length_is = is.length_is; each = is.shows })

module _ (fill : PeelingsFillTheClosure) (ends : MaximalPeelingsEndAtSolution) (solvable : SoundWhereSolvable) where
  pub plays_show_sound_peelings : PlaysShowSoundPeelings
  plays_show_sound_peelings count desk new play holds is =
      let orderly = orderly_from_holds desk holds in
      let fits = admissible desk orderly in
      let some = fill.exists (known desk) (live_equations desk) in
      let first : IsMaximalOn desk some.0 = maximal_from_peel desk orderly some.0 some.1 in
      let sound_of : HasSolution desk → (steps : List Step) → IsMaximalOn desk steps → IsSoundOn desk steps =
      λ solved steps maximal. solution_from_peel desk orderly (end_on desk steps)
      ((solvable (known desk) (live_equations desk) fits steps (maximal_to_peel desk orderly steps maximal)).1
      (solved.0, solution_to_peel desk orderly solved.0 solved.1)) in
      let solved_of : play.outcome ≡ Repaired → HasSolution desk =
      λ repaired. (is.words, repaired_solves desk play.outcome is.words repaired is.decides) in
      let repaired_of : HasSolution desk → play.outcome ≡ Repaired = solved_is_repaired desk play.outcome is.words is.decides in
      record {
        admissible = fits;
        exists = (some.0, first);
        sound_is_maximal = λ steps peeling sound. record {
          peeling = peeling;
          no_more = λ step more.
              (let can = last_step desk (known desk) steps step more in
              let longer = fill.within (known desk) (live_equations desk) (steps ++ step ∷ [])
              (steps_to_peel desk (known desk) (steps ++ step ∷ []) more) in
              let has = ((solution_to_peel desk orderly (end_on desk steps) sound).domain step.position).1
              (longer step.position (last_known (known desk) steps step)) in
              let v = value_of (end_on desk steps step.position) has in
              none-some v.0 (sym can.unknown ∙ v.1));
        };
        repaired = (
          λ repaired. (some.0, first, sound_of (solved_of repaired) some.0 first),
          λ found. repaired_of (end_on desk found.0, found.2),
        );
        all_repaired = (
          λ repaired steps maximal. sound_of (solved_of repaired) steps maximal,
          λ all. repaired_of (end_on desk some.0, all some.0 first),
        );
        shows = λ steps maximal sound.
            (let repaired = repaired_of (end_on desk steps, sound) in
            window_shows count desk new play is (end_on desk steps)
            (sym (ends (known desk) (live_equations desk) fits is.words
            (solution_to_peel desk orderly is.words (repaired_solves desk play.outcome is.words repaired is.decides))
            steps (maximal_to_peel desk orderly steps maximal))));
        inconsistent = (
          λ none steps peeling sound. inconsistent_has_none desk play.outcome is.words none is.decides (end_on desk steps, sound),
          λ none. unsolved_is_inconsistent desk play.outcome is.words is.decides
              (λ solved. none some.0 first.peeling (sound_of solved some.0 first)),
        );
        received = λ none. window_shows count desk new play is (get desk.media)
            (inconsistent_is_received desk play.outcome is.words none is.decides);
      }
