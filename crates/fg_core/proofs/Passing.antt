-- Windows that show nothing, passed in one call: what they make of a desk and of a board.
use Rattle.std.proofs.Common.{◌≡◌, ◌≢◌, ◌+◌, ◌<◌, ◌≤◌, ℕ, zero, suc, Bool, true, false, cond, ltb, max, List, [], ◌∷◌, map, length, Option, Some, None, IsSome, refl, sym, ap, subst, ◌∙◌, ⊎_elim, arith, lt-ltb, le-ltb}
use Rattle.std.proofs.lemmas.Bool.{cases_lt, cond-true, cond-false}
use Rattle.std.proofs.lemmas.List.{length-replicate}
use Rattle.std.proofs.lemmas.Option.{none-some}
use Rattle.std.specs.List.{Contains}
use Rattle.std.specs.FinMap.{get, len, entries, len-entries}
use Rattle.fg_words.specs.declared.Word.{Word}
use Rattle.fg_shape.specs.Playout.{Playout}
use Rattle.fg_peel.specs.Equation.{Equation}
use Rattle.fg_peel.specs.Peeling.{Step, IsPeeling, end_of}
use Rattle.fg_peel.proofs.Lists.{Contains-nil}
use Rattle.fg_peel.proofs.Options.{none_or_some, none_has_no_value, has_value}
use Rattle.fg_playout.specs.declared.reply.Outcome.TheVariants.{Repaired}
use Rattle.fg_playout.specs.State.{State, Live, known, live_equations}
use Rattle.fg_playout.specs.Admission.{kept_count}
use Rattle.fg_playout.specs.Facts.{Holds}
use Rattle.fg_playout.specs.Play.{Play, IsPlay, nothing_shown}
use Rattle.fg_playout.specs.Held.{at_time}
use Rattle.fg_playout.specs.Laws.{PlayKeeps, PlayIsOne, HavePlayed, AreFlushSteps, AreHeldSteps}
use Rattle.fg_playout.specs.Empty.{empty_play, empty_plays}
use Rattle.fg_playout.proofs.Held.{at_time_holds}
use Rattle.fg_playout.proofs.Orderly.{known_below}
use Rattle.fg_desk.specs.Contents.{Contents, AreSolved, ChangesInPlay, known_in}
use Rattle.fg_core.specs.Skipping.{timed, ArePassed, Passes}
use Rattle.fg_core.proofs.Follows.{Follows}
use Rattle.fg_core.proofs.Known.{known_first, solved_second, nothing_solved}
use Rattle.fg_core.proofs.Next.{IsNext, AreBareKept}
use Rattle.fg_core.proofs.Played.{mark_rises, known_stays, kept_is, was_live, same_admitted, bare_is_kept}

-- What windows that show nothing keep of a desk.
pub record Goes (old new : State) : Type 0 where
  pub mark : old.mark ≤ new.mark
  pub admitted : new.admitted ≡ old.admitted
  pub top : new.top ≡ old.top
  pub lives : (serial : ℕ) (live : Live) → get new.equations serial ≡ Some live → get old.equations serial ≡ Some live
  pub words :
      (q : ℕ) (word : Word) → new.mark ≤ q + kept_count → known old q ≡ Some word → known new q ≡ Some word

-- One window.
module _ (count window first : ℕ) (old new : State) (plays : IsPlay count old (empty_play window first) new) where
  abbrev shown_empty : Play
  shown_empty = empty_play window first

  one_goes : Goes old new
  one_goes = record {
    mark = mark_rises count old shown_empty new plays;
    admitted = same_admitted count old shown_empty new plays;
    top = ap (λ (s : State). s.top) plays.rest;
    lives = λ serial live is. was_live count old shown_empty new plays serial live is;
    words = λ q word near is. ⊎_elim
        (λ below.
        known_below new q below ∙ kept_is count old shown_empty new plays q below near
        ∙ ⊎_elim
        (λ before.
        cond-true (ltb q old.mark) (get old.kept q) (plays.words q) (lt-ltb q old.mark before)
        ∙ sym (known_below old q before) ∙ is)
        (λ past.
        cond-false (ltb q old.mark) (get old.kept q) (plays.words q) (le-ltb q old.mark past)
        ∙ plays.decides.agrees q word is)
        (cases_lt q old.mark))
        (λ ahead. known_stays count old shown_empty new plays q ahead ∙ is)
        (cases_lt q new.mark);
  }

  -- It closes as many positions as it shows.
  whole : IsPlay window old (empty_play window first) new
  whole =
      subst (λ (n : ℕ). IsPlay n old (empty_play window first) new)
      (sym plays.length_is ∙ length-replicate window nothing_shown) plays

  -- So the others are those from the new mark on.
  others_are :
      (rest : ℕ) → count ≡ old.playout.window
      → empty_plays rest old.playout.window (old.mark + old.playout.window) ≡ empty_plays rest new.playout.window new.mark
  others_are rest all =
      let playout = ap (λ (s : State). s.playout) plays.rest in
      let mark : new.mark ≡ old.mark + old.playout.window = plays.mark ∙ ap (λ (n : ℕ). old.mark + n) all in
      sym (ap (λ (n : ℕ). empty_plays rest n new.mark) (ap (λ (p : Playout). p.window) playout)
      ∙ ap (λ (n : ℕ). empty_plays rest old.playout.window n) mark)

-- All of them.

goes_on : (old between new : State) → Goes old between → Goes between new → Goes old new
goes_on old between new first then = record {
  mark = (let m = first.mark in let m' = then.mark in omega (arith, m, m'));
  admitted = then.admitted ∙ first.admitted;
  top = then.top ∙ first.top;
  lives = λ serial live is. first.lives serial live (then.lives serial live is);
  words = λ q word near is. (let m = then.mark in then.words q word near (first.words q word (omega (arith, m, near)) is));
}

goes_nowhere : (desk : State) → Goes desk desk
goes_nowhere desk = record {
  mark = omega arith;
  admitted = refl;
  top = refl;
  lives = λ serial live is. is;
  words = λ q word near is. is;
}

all_go : (count : ℕ) (old new : State) → ArePassed count old new → Goes old new
all_go zero old new passed = subst (λ (s : State). Goes old s) (sym passed) (goes_nowhere old)
all_go (suc count) old new passed =
    goes_on old passed.0 new (one_goes old.playout.window old.playout.window old.mark old passed.0 passed.1)
    (all_go count passed.0 new passed.2)

-- A time that is told changes none of that.
untimed : (time : Option ℕ) (old new : State) → Goes (timed time old) new → Goes old new
untimed None old new goes = goes
untimed (Some time) old new goes =
    record { mark = goes.mark; admitted = goes.admitted; top = goes.top; lives = goes.lives; words = goes.words }

timed_holds : (time : Option ℕ) (old : State) → Holds old → Holds (timed time old)
timed_holds None old holds = holds
timed_holds (Some time) old holds = at_time_holds old time holds

timed_top : (time : Option ℕ) (old : State) → (timed time old).top ≡ old.top
timed_top None old = refl
timed_top (Some time) old = refl

some_passed : (count : ℕ) → suc count ≢ 0
some_passed count none = omega (arith, none)

-- Each passed window is counted,
passed_calls : (count : ℕ) (old new : State) → ArePassed count old new → new.calls ≡ old.calls + count
passed_calls zero old new passed = let same = ap (λ (s : State). s.calls) passed in omega (arith, same)
passed_calls (suc count) old new passed =
    let one = ap (λ (s : State). s.calls) passed.1.rest in
    let rest = passed_calls count passed.0 new passed.2 in
    omega (arith, one, rest)

timed_calls : (time : Option ℕ) (old : State) → (timed time old).calls ≡ old.calls
timed_calls None old = refl
timed_calls (Some time) old = refl

pub calls_are : (time : Option ℕ) (count : ℕ) (old new : State) → Passes time count old new → new.calls ≡ old.calls + count
calls_are time zero old new passes = let same = ap (λ (s : State). s.calls) (passes.none refl) in omega (arith, same)
calls_are time (suc count) old new passes =
    let all = passed_calls (suc count) (timed time old) new (passes.plays (some_passed count)) in
    let same = timed_calls time old in
    omega (arith, all, same)

-- and the mark moves past it.
passed_mark : (count : ℕ) (old new : State) → 1 ≤ old.playout.window → ArePassed count old new → old.mark + count ≤ new.mark
passed_mark zero old new some passed = let same = ap (λ (s : State). s.mark) passed in omega (arith, same)
passed_mark (suc count) old new some passed =
    let one = passed.1.mark in
    let window = ap (λ (s : State). s.playout.window) passed.1.rest in
    let rest = passed_mark count passed.0 new (omega (arith, window, some)) passed.2 in
    omega (arith, one, rest, some)

pub count_within :
    (time : Option ℕ) (count limit : ℕ) (old new : State) → 1 ≤ old.playout.window → new.mark < limit
    → Passes time count old new → count ≤ limit
count_within time zero limit old new some below passes = omega arith
count_within None (suc count) limit old new some below passes =
    let far = passed_mark (suc count) old new some (passes.plays (some_passed count)) in
    omega (arith, far, below)
count_within (Some time) (suc count) limit old new some below passes =
    let far = passed_mark (suc count) (at_time old time) new some (passes.plays (some_passed count)) in
    omega (arith, far, below)

-- The facts hold then, and there is one outcome.

next_opened : (old next : State) → old.top ≢ None → next.top ≡ old.top → next.top ≢ None
next_opened old next opened same none = opened (sym same ∙ none)

module _ (keeps : PlayKeeps) where
  next_holds :
      (old next : State) → Holds old → old.top ≢ None
      → IsPlay old.playout.window old (empty_play old.playout.window old.mark) next → Holds next
  next_holds old next holds opened plays =
      keeps old.playout.window old next (empty_play old.playout.window old.mark) holds opened plays

  passed_holds : (count : ℕ) (old new : State) → Holds old → old.top ≢ None → ArePassed count old new → Holds new
  passed_holds zero old new holds opened passed = subst (λ (s : State). Holds s) (sym passed) holds
  passed_holds (suc count) old new holds opened passed =
      passed_holds count passed.0 new (next_holds old passed.0 holds opened passed.1)
      (next_opened old passed.0 opened (ap (λ (s : State). s.top) passed.1.rest)) passed.2

  pub passes_hold :
      (time : Option ℕ) (count : ℕ) (old new : State) → Holds old → IsSome old.top → Passes time count old new → Holds new
  passes_hold time zero old new holds some passes = subst (λ (s : State). Holds s) (sym (passes.none refl)) holds
  passes_hold time (suc count) old new holds some passes =
      passed_holds (suc count) (timed time old) new (timed_holds time old holds)
      (λ none. none_has_no_value old.top (sym (timed_top time old) ∙ none) some)
      (passes.plays (some_passed count))

  module _ (is_one : PlayIsOne) where
    passed_one :
        (count : ℕ) (old one other : State) → Holds old → old.top ≢ None → ArePassed count old one
        → ArePassed count old other → one ≡ other
    passed_one zero old one other holds opened passed passed' = passed ∙ sym passed'
    passed_one (suc count) old one other holds opened passed passed' =
        let play = empty_play old.playout.window old.mark in
        let same = (is_one old.playout.window old passed.0 passed'.0 play play holds passed.1 passed'.1).1 in
        passed_one count passed.0 one other (next_holds old passed.0 holds opened passed.1)
        (next_opened old passed.0 opened (ap (λ (s : State). s.top) passed.1.rest)) passed.2
        (subst (λ (s : State). ArePassed count s other) (sym same) passed'.2)

    pub passes_are_one :
        (time : Option ℕ) (count : ℕ) (old one other : State) → Holds old → IsSome old.top → Passes time count old one
        → Passes time count old other → one ≡ other
    passes_are_one time zero old one other holds some passes passes' = passes.none refl ∙ sym (passes'.none refl)
    passes_are_one time (suc count) old one other holds some passes passes' =
        passed_one (suc count) (timed time old) one other (timed_holds time old holds)
        (λ none. none_has_no_value old.top (sym (timed_top time old) ∙ none) some)
        (passes.plays (some_passed count)) (passes'.plays (some_passed count))

-- What they keep of a desk with its solved words. Where no equation is live nothing is solved.

peeled_nothing :
    (desk : State) (words : ℕ → Option Word) → live_equations desk ≡ [] → (steps : List Step)
    → IsPeeling (known desk) (live_equations desk) steps → words ≡ end_of (known desk) steps → words ≡ known desk
peeled_nothing desk words none [] peeling is = is
peeled_nothing desk words none (step ∷ steps) peeling is =
    absurd (Contains-nil step.equation (subst (λ (l : List Equation). Contains l step.equation) none peeling.0.listed))

module _ (desk : Contents) (solved : AreSolved desk) (none : live_equations desk.state ≡ []) where
  known_alone_in : (q : ℕ) → known_in desk q ≡ known desk.state q
  known_alone_in q =
      ap (λ (f : ℕ → Option Word). f q)
      (peeled_nothing desk.state (known_in desk) none solved.peeled.0 solved.peeled.1 solved.peeled.2)

  unsolved : (q : ℕ) → get desk.solved q ≡ None
  unsolved q = ⊎_elim (λ is. is)
      (λ some.
      let unknown : known desk.state q ≡ None = solved.beside q (has_value (get desk.solved q) some.0 some.1) in
      absurd (none-some some.0 (sym unknown ∙ sym (known_alone_in q) ∙ solved_second desk q unknown ∙ some.1)))
      (none_or_some (get desk.solved q))

none_either : (b : Bool) (o : Option Word) → o ≡ None → cond b None o ≡ None
none_either true o is = refl
none_either false o is = is

next_of_same : (desk : Contents) → AreSolved desk → AreBareKept desk → IsNext desk desk
next_of_same desk solved bare = record {
  mark = omega arith;
  admitted = omega arith;
  epoch = omega arith;
  one_more = omega arith;
  words = λ _ slot word _ known. known;
  lives = λ serial live _ is. is;
  solved = solved;
  bare = bare;
}

module _ (time : Option ℕ) (old new : Contents) (bare : AreBareKept old) where
  goes_of : (count : ℕ) → Passes time (suc count) old.state new.state → Goes old.state new.state
  goes_of count passes =
      untimed time old.state new.state
      (all_go (suc count) (timed time old.state) new.state (passes.plays (some_passed count)))

  pub skip_is_next :
      (count : ℕ) → AreSolved old → Passes time count old.state new.state → (count ≡ 0 → new ≡ old)
      → (count ≢ 0 → ChangesInPlay Repaired old new) → IsNext old new
  skip_is_next zero solved passes none changes =
      subst (λ (d : Contents). IsNext old d) (sym (none refl)) (next_of_same old solved bare)
  skip_is_next (suc count) solved passes none changes =
      let goes = goes_of count passes in
      let changed = changes (some_passed count) in
      let empty = passes.equations (some_passed count) in
      let a = goes.admitted in
      let e = changed.epoch in
      record {
        mark = goes.mark;
        admitted = omega (arith, a);
        epoch = omega (arith, e);
        one_more = omega (arith, e);
        words = λ _ q word near is.
            known_first new q word (goes.words q word near (sym (known_alone_in old solved empty q) ∙ is));
        lives = λ serial live _ is. goes.lives serial live is;
        solved = nothing_solved new
            (λ q. changed.solved q ∙ none_either (ltb q new.state.mark) (get old.solved q) (unsolved old solved empty q));
        bare = bare_is_kept old new Repaired changed;
      }

  pub skip_follows :
      (count : ℕ) → Passes time count old.state new.state → (count ≡ 0 → new ≡ old)
      → (count ≢ 0 → ChangesInPlay Repaired old new) → Follows old new
  skip_follows zero passes none changes =
      subst (λ (d : Contents). Follows old d) (sym (none refl))
      (record { admitted = omega arith; epoch = omega arith; lives = λ serial live _ is. is; bare = bare })
  skip_follows (suc count) passes none changes =
      let goes = goes_of count passes in
      let changed = changes (some_passed count) in
      let a = goes.admitted in
      let e = changed.epoch in
      record {
        admitted = omega (arith, a);
        epoch = omega (arith, e);
        lives = λ serial live _ is. goes.lives serial live is;
        bare = bare_is_kept old new Repaired changed;
      }

-- What the desk's calls do is that.

pub none_live : (desk : State) → len desk.equations ≡ 0 → live_equations desk ≡ []
none_live desk none = go (entries desk.equations) (omega (arith, none, len-entries desk.equations))
  where
    go : (es : List (ℕ × Live)) → length es ≡ 0 → map (λ (e : ℕ × Live). e.1.equation) es ≡ []
    go [] empty = refl
    go (e ∷ es) some = absurd (omega (arith, some))

due_passed :
    (count seq ssrc : ℕ) (old new : State) → HavePlayed old seq ssrc (empty_plays count old.playout.window old.mark) new
    → ArePassed count old new
due_passed zero seq ssrc old new played = played
due_passed (suc count) seq ssrc old new played =
    let w = old.playout.window in
    let next = played.1.0 in (
      next,
      played.1.1,
      due_passed count seq ssrc next new
          (subst (λ (plays : List Play). HavePlayed next seq ssrc plays new)
          (others_are w w old.mark old next played.1.1 count refl) played.1.2),
    )

flush_passed :
    (count : ℕ) (old new : State) → AreFlushSteps old (empty_plays count old.playout.window old.mark) new
    → ArePassed count old new
flush_passed zero old new played = played
flush_passed (suc count) old new played =
    let w = old.playout.window in
    let next = played.0 in
    let all = whole _ w old.mark old next played.1.plays in (
      next,
      all,
      flush_passed count next new
          (subst (λ (plays : List Play). AreFlushSteps next plays new) (others_are w w old.mark old next all count refl)
          played.2),
    )

-- Once a time is told, no play changes the clock.
told_once : (old next : State) (time : ℕ) → next.clock ≡ max old.clock time → at_time next time ≡ next
told_once old next time is =
    let same : max next.clock time ≡ next.clock = omega (arith, is) in
    ap (λ (c : ℕ). record next { clock = c }) same

then_passed :
    (count time : ℕ) (now new : State) → at_time now time ≡ now
    → AreHeldSteps now time (empty_plays count now.playout.window now.mark) new → ArePassed count now new
then_passed zero time now new told played = played
then_passed (suc count) time now new told played =
    let w = now.playout.window in
    let next = played.0 in
    let all = subst (λ (s : State). IsPlay w s (empty_play w now.mark) next) told
    (whole _ w now.mark (at_time now time) next played.1.plays) in
    let clock : next.clock ≡ now.clock = ap (λ (s : State). s.clock) all.rest in
    let before : max now.clock time ≡ now.clock = ap (λ (s : State). s.clock) told in (
      next,
      all,
      then_passed count time next new (told_once now next time (clock ∙ sym before))
          (subst (λ (plays : List Play). AreHeldSteps next time plays new) (others_are w w now.mark now next all count refl)
          played.2),
    )

held_passed :
    (count time : ℕ) (old new : State) → AreHeldSteps old time (empty_plays (suc count) old.playout.window old.mark) new
    → ArePassed (suc count) (at_time old time) new
held_passed count time old new played =
    let w = old.playout.window in
    let now = at_time old time in
    let next = played.0 in
    let all = whole _ w old.mark now next played.1.plays in
    let clock : next.clock ≡ max old.clock time = ap (λ (s : State). s.clock) all.rest in (
      next,
      all,
      then_passed count time next new (told_once old next time clock)
          (subst (λ (plays : List Play). AreHeldSteps next time plays new) (others_are w w old.mark now next all count refl)
          played.2),
    )

module _ (old new : Contents) (none : len old.state.equations ≡ 0) where
  pub due_passes :
      (count seq ssrc : ℕ)
      → HavePlayed old.state seq ssrc (empty_plays count old.state.playout.window old.state.mark) new.state
      → (count ≡ 0 → new ≡ old) → Passes None count old.state new.state
  due_passes count seq ssrc played same = record {
    none = λ is. ap (λ (d : Contents). d.state) (same is);
    equations = λ _. none_live old.state none;
    plays = λ _. due_passed count seq ssrc old.state new.state played;
  }

  pub flush_passes :
      (count : ℕ) → AreFlushSteps old.state (empty_plays count old.state.playout.window old.state.mark) new.state
      → (count ≡ 0 → new ≡ old) → Passes None count old.state new.state
  flush_passes count played same = record {
    none = λ is. ap (λ (d : Contents). d.state) (same is);
    equations = λ _. none_live old.state none;
    plays = λ _. flush_passed count old.state new.state played;
  }

  pub held_passes :
      (count time : ℕ)
      → AreHeldSteps old.state time (empty_plays count old.state.playout.window old.state.mark) new.state
      → (count ≡ 0 → new ≡ old) → Passes (Some time) count old.state new.state
  held_passes zero time played same = record {
    none = λ is. ap (λ (d : Contents). d.state) (same is);
    equations = λ _. none_live old.state none;
    plays = λ some. absurd (some refl);
  }
  held_passes (suc count) time played same = record {
    none = λ is. ap (λ (d : Contents). d.state) (same is);
    equations = λ _. none_live old.state none;
    plays = λ _. held_passed count time old.state new.state played;
  }

pub none_pass : (time : Option ℕ) (desk : State) → Passes time 0 desk desk
none_pass time desk = record {
  none = λ _. refl;
  equations = λ some. absurd (some refl);
  plays = λ some. absurd (some refl);
}
