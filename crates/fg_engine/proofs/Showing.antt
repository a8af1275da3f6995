-- Plays are made and shown one after another.
use Rattle.std.proofs.Common.{◌≡◌, ◌+◌, ◌-◌, ◌≤◌, ◌++◌, ℕ, List, [], ◌∷◌, length, min, Bool, false, true, IsTrue, Option, Some, refl, sym, ap, subst, ◌∙◌, arith, length-append}
use Rattle.std.proofs.lemmas.List.{append-nil}
use Rattle.fg_io.specs.Outlet.{Lanes}
use Rattle.fg_io.proofs.PrefixLemmas.{IsPrefix-nil}
use Rattle.fg_playout.specs.State.{State}
use Rattle.fg_playout.specs.Admission.{IsDue}
use Rattle.fg_playout.specs.Play.{Play, IsPlay, IsFlushStep}
use Rattle.fg_playout.specs.Held.{IsHeldStep}
use Rattle.fg_playout.specs.Laws.{HavePlayed, AreFlushSteps, AreHeldSteps, PlaysDueJoin, FlushStepsJoin, HeldStepsJoin}
use Rattle.fg_report.specs.declared.flow_sum.FlowSum.{FlowSum}
use Rattle.fg_results.specs.Flow.{all_shown, lane_of}
use Rattle.fg_engine.specs.Steps.{with_plays, CountsWithin, Grows, GrowsPart, HaveShown, BreakOff}
use Rattle.fg_results.proofs.ShownLemmas.{all_shown_more, lane_more}
use Rattle.fg_engine.proofs.Counting.{plays_more, plays_within}
use Rattle.fg_engine.proofs.Growing.{grows_none, grows_join, grows_part_join}

shown_of_one : (play : Play) → length (all_shown (play ∷ [])) ≡ length play.shown
shown_of_one play = ap length (append-nil play.shown)

-- A play moves the mark by what it shows.
mark_after :
    (count : ℕ) (old : State) (play : Play) (new : State) → IsPlay count old play new
    → new.mark ≡ old.mark + length (all_shown (play ∷ []))
mark_after count old play new is =
    is.mark ∙ ap (λ (n : ℕ). old.mark + n) (sym is.length_is ∙ sym (shown_of_one play))

-- It keeps the settings.
pub keeps_playout : (count : ℕ) (old : State) (play : Play) (new : State) → IsPlay count old play new → new.playout ≡ old.playout
keeps_playout count old play new is = ap (λ (s : State). s.playout) is.rest

-- No play adds nothing.
pub counts_none : (sum : FlowSum) (first : ℕ) → sum ≡ with_plays sum first []
counts_none sum first =
    let zero : (n : ℕ) → n ≡ n + 0 = λ n. omega arith in
    λ i. record sum {
      shown = zero sum.shown i;
      repaired = zero sum.repaired i;
      missing = zero sum.missing i;
      windows = zero sum.windows i;
      inconsistent = zero sum.inconsistent i;
    }

-- A fault before any play.
pub breaks_before :
    (Are : List Play → State → Type 0) (old : State) (port : ℕ) (lanes : Option Lanes) → Are [] old
    → BreakOff Are port lanes lanes
breaks_before Are old port lanes are = record {
  plays = [];
  now = old;
  are = are;
  part = (([]), IsPrefix-nil [], grows_none lanes port);
}

-- Nothing is shown yet.
pub shown_none :
    (Are : List Play → State → Type 0) (old : State) (sum : FlowSum) (lanes : Option Lanes) → Are [] old
    → HaveShown Are old sum lanes old sum lanes
shown_none Are old sum lanes are = record {
  plays = [];
  are = are;
  mark = omega arith;
  grows = grows_none lanes sum.port;
  counts = counts_none sum old.mark;
}

-- What was made so, may be told otherwise.
pub retold :
    (Are Told : List Play → State → Type 0) (old new : State) (sum sum' : FlowSum) (before after : Option Lanes)
    → ((plays : List Play) → Are plays new → Told plays new) → HaveShown Are old sum before new sum' after
    → HaveShown Told old sum before new sum' after
retold Are Told old new sum sum' before after tell so = record {
  plays = so.plays;
  are = tell so.plays so.are;
  mark = so.mark;
  grows = so.grows;
  counts = so.counts;
}

module _ (Are : List Play → State → Type 0) (old : State) (sum : FlowSum) (before : Option Lanes) where
  pub one_more_shown :
      (count : ℕ) (between on new : State) (so_far next : FlowSum) (middle after : Option Lanes) (play : Play)
      → HaveShown Are old sum before between so_far middle → on.mark ≡ between.mark
      → ((plays : List Play) → Are plays between → Are (plays ++ play ∷ []) new)
      → IsPlay count on play new → so_far.port ≡ sum.port → next ≡ with_plays so_far play.first (play ∷ [])
      → Grows middle so_far.port (lane_of (play ∷ [])) after → HaveShown Are old sum before new next after
  one_more_shown count between on new so_far next middle after play so at join is port counted grows =
      let more = all_shown_more so.plays (play ∷ []) in
      let first : play.first ≡ old.mark + length (all_shown so.plays) = is.first ∙ at ∙ so.mark in
      record {
        plays = so.plays ++ play ∷ [];
        are = join so.plays so.are;
        mark =
            mark_after count on play new is
            ∙ ap (λ (n : ℕ). n + length (all_shown (play ∷ []))) at
            ∙ (let m = so.mark in let l = length-append (all_shown so.plays) (all_shown (play ∷ [])) in let e = ap length more in omega (arith, m, l, e));
        grows =
            subst (λ (bytes : List ℕ). Grows before sum.port bytes after) (sym (lane_more so.plays (play ∷ [])))
            (grows_join before middle after sum.port (lane_of so.plays) (lane_of (play ∷ [])) so.grows
            (subst (λ (at : ℕ). Grows middle at (lane_of (play ∷ [])) after) port grows));
        counts =
            counted
            ∙ (λ i. with_plays (so.counts i) (first i) (play ∷ []))
            ∙ plays_more sum old.mark so.plays (play ∷ []);
      }

-- The counts stay within what was played.
pub within_one_more :
    (count : ℕ) (between new : State) (so_far next : FlowSum) (play : Play) → CountsWithin so_far between.mark
    → IsPlay count between play new → 1 ≤ count → next ≡ with_plays so_far play.first (play ∷ []) → CountsWithin next new.mark
within_one_more count between new so_far next play within is some counted =
    let many : 1 ≤ length play.shown = (let l = is.length_is in omega (arith, l, some)) in
    subst (λ (s : FlowSum). CountsWithin s new.mark) (sym (counted ∙ ap (λ (n : ℕ). with_plays so_far n (play ∷ [])) is.first))
    (subst (λ (n : ℕ). CountsWithin (with_plays so_far between.mark (play ∷ [])) n) (sym (mark_after count between play new is))
    (plays_within so_far between.mark play within many))

-- What a loop over plays keeps: what it has shown so far, with what holds of the player, of the lanes and of their faults.
pub record HavePlayedOn
    (Are : List Play → State → Type 0) (old : State) (sum : FlowSum) (before : Option Lanes) (new : State) (sum' : FlowSum)
    (now : Option Lanes) (Player Still Faults : Type 0) : Type 0 where
  pub so : HaveShown Are old sum before new sum' now
  pub counts : CountsWithin sum' new.mark
  pub port : sum'.port ≡ sum.port
  pub player : Player
  pub still : Still
  pub playout : new.playout ≡ old.playout
  pub faults : Faults

-- One more play, which is one from `on`, where the desk has been told a time.
pub one_play_more :
    {Player Still Faults Player' Still' Faults' : Type 0} (Are : List Play → State → Type 0) (old : State) (sum : FlowSum)
    (before : Option Lanes) (count : ℕ) (between on new : State) (so_far next : FlowSum) (middle after : Option Lanes) (play : Play)
    → HavePlayedOn Are old sum before between so_far middle Player Still Faults
    → on.mark ≡ between.mark → on.playout ≡ between.playout
    → ((plays : List Play) → Are plays between → Are (plays ++ play ∷ []) new) → IsPlay count on play new → 1 ≤ count
    → next ≡ with_plays so_far play.first (play ∷ []) → Grows middle so_far.port (lane_of (play ∷ [])) after
    → next.port ≡ so_far.port → Player' → Still' → Faults'
    → HavePlayedOn Are old sum before new next after Player' Still' Faults'
one_play_more Are old sum before count between on new so_far next middle after play h mark playout join is some counted grows port player still faults =
    record {
      so = one_more_shown Are old sum before count between on new so_far next middle after play h.so mark join is h.port counted grows;
      counts = within_one_more count on new so_far next play (subst (CountsWithin so_far) (sym mark) h.counts) is some counted;
      port = port ∙ h.port;
      player = player;
      still = still;
      playout = keeps_playout count on play new is ∙ playout ∙ h.playout;
      faults = faults;
    }

-- A fault while one more was shown.
pub breaks_off :
    {Are : List Play → State → Type 0} {old between new : State} {sum so_far : FlowSum} {before middle after : Option Lanes} {play : Play}
    {Player Still Faults : Type 0} → HavePlayedOn Are old sum before between so_far middle Player Still Faults
    → ((plays : List Play) → Are plays between → Are (plays ++ play ∷ []) new) → GrowsPart middle so_far.port (lane_of (play ∷ [])) after
    → BreakOff Are sum.port before after
breaks_off {new} {sum} {before} {middle} {after} {play} h join part = record {
  plays = h.so.plays ++ play ∷ [];
  now = new;
  are = join h.so.plays h.so.are;
  part =
      subst (λ (bytes : List ℕ). GrowsPart before sum.port bytes after) (sym (lane_more h.so.plays (play ∷ [])))
      (grows_part_join before middle after sum.port (lane_of h.so.plays) (lane_of (play ∷ [])) h.so.grows
      (subst (λ (at : ℕ). GrowsPart middle at (lane_of (play ∷ [])) after) h.port part));
}

-- A play that is due comes after those before it.
pub due_after :
    (old between new : State) (seq ssrc : ℕ) (play : Play) → PlaysDueJoin → IsDue between seq ssrc
    → IsPlay between.playout.window between play new → (plays : List Play) → HavePlayed old seq ssrc plays between
    → HavePlayed old seq ssrc (plays ++ play ∷ []) new
due_after old between new seq ssrc play join due is plays played =
    join old between new seq ssrc plays (play ∷ []) played (due, (new, is, refl))

-- So does a step of a flush.
pub step_after :
    (old between new : State) (play : Play) → FlushStepsJoin → IsFlushStep between play new
    → (plays : List Play) → AreFlushSteps old plays between → AreFlushSteps old (plays ++ play ∷ []) new
step_after old between new play join step plays steps = join old between new plays (play ∷ []) steps (new, step, refl)

-- So does a held step.
pub held_after :
    (old between new : State) (time : ℕ) (play : Play) → HeldStepsJoin → IsHeldStep between time (Some play) new
    → (plays : List Play) → AreHeldSteps old time plays between → AreHeldSteps old time (plays ++ play ∷ []) new
held_after old between new time play join step plays steps = join old between new time plays (play ∷ []) steps (new, step, refl)

-- It plays one position at least.
pub held_shows :
    (old new : State) (time : ℕ) (play : Play) (step : IsHeldStep old time (Some play) new) → 1 ≤ old.playout.window
    → 1 ≤ min old.playout.window (step.greatest + 1 - old.mark)
held_shows old new time play step some = (let ahead : old.mark ≤ step.greatest = step.greatest_is.inside.1 in omega (arith, ahead, some))

-- A test that fails.
pub fails : (P : Type 0) (b : Bool) → b ≡ false → (P → IsTrue b) → ¬ P
fails P b isnt all p = (let yes : b ≡ true = all p in cc)

-- A step of a flush plays one position at least.
pub step_shows :
    (old new : State) (play : Play) (step : IsFlushStep old play new) → 1 ≤ old.playout.window
    → 1 ≤ min old.playout.window (step.highest + 1 - old.mark)
step_shows old new play step some = (let more : old.mark ≤ step.highest = step.more in omega (arith, more, some))
