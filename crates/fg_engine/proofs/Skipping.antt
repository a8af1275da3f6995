-- Windows that are skipped show nothing, and are counted as if they were played one by one.
use Rattle.std.proofs.Common.{◌≡◌, ◌≢◌, ◌+◌, ◌-◌, ◌*◌, ◌≤◌, ◌++◌, min, ℕ, zero, suc, Bool, true, false, cond, not, List, [], ◌∷◌, length, replicate, Option, refl, sym, ap, subst, ◌∙◌, arith, length-append}
use Rattle.std.specs.List.{count_by, flat_map}
use Rattle.std.proofs.lemmas.List.{append-nil, length-replicate, replicate_more, replicate-append-replicate}
use Rattle.std.proofs.lemmas.List.Folds.{sum_by-replicate}
use Rattle.fg_io.specs.Outlet.{Lanes}
use Rattle.fg_playout.specs.State.{State}
use Rattle.fg_playout.specs.Play.{Play, Shown, IsPlay, nothing_shown}
use Rattle.fg_playout.specs.Held.{at_time}
use Rattle.fg_playout.specs.Laws.{HavePlayed, AreFlushSteps, AreHeldSteps}
use Rattle.fg_playout.specs.Empty.{empty_plays}
use Rattle.fg_report.specs.Gaps.{with_gap}
use Rattle.fg_report.proofs.GapLemmas.{touching}
use Rattle.fg_report.specs.declared.flow_sum.FlowSum.{FlowSum}
use Rattle.fg_results.specs.Flow.{all_shown, shown_payload, shows_word, is_inconsistent, lane_of}
use Rattle.fg_results.specs.Gaps.{gaps_from}
use Rattle.fg_results.proofs.ShownLemmas.{all_shown_more, lane_more}
use Rattle.fg_engine.specs.Steps.{with_plays, CountsWithin, Grows}
use Rattle.fg_engine.proofs.Counting.{gaps_more, plays_more, shown_within}
use Rattle.fg_engine.proofs.Showing.{HavePlayedOn, counts_none, keeps_playout}

-- What they show

next_window : (count window : ℕ) → window + count * window ≡ suc count * window
next_window count window = omega arith

pub all_empty : (count window first : ℕ) → all_shown (empty_plays count window first) ≡ replicate (count * window) nothing_shown
all_empty zero window first = (let none : 0 ≡ 0 * window = omega arith in ap (λ (n : ℕ). replicate n nothing_shown) none)
all_empty (suc count) window first =
    ap (λ (more : List Shown). replicate window nothing_shown ++ more) (all_empty count window (first + window))
    ∙ replicate-append-replicate window (count * window) nothing_shown
    ∙ ap (λ (n : ℕ). replicate n nothing_shown) (next_window count window)

pub many_empty : (count window first : ℕ) → length (all_shown (empty_plays count window first)) ≡ count * window
many_empty count window first = ap length (all_empty count window first) ∙ length-replicate (count * window) nothing_shown

no_payload : (n : ℕ) → flat_map shown_payload (replicate n nothing_shown) ≡ []
no_payload zero = refl
no_payload (suc n) = no_payload n

pub no_lane : (count window first : ℕ) → lane_of (empty_plays count window first) ≡ []
no_lane count window first = ap (λ (shown : List Shown). flat_map shown_payload shown) (all_empty count window first) ∙ no_payload (count * window)

-- How they are counted

pub plays_counted : (count window first : ℕ) → length (empty_plays count window first) ≡ count
plays_counted zero window first = refl
plays_counted (suc count) window first = ap suc (plays_counted count window (first + window))

pub none_inconsistent : (count window first : ℕ) → count_by is_inconsistent (empty_plays count window first) ≡ 0
none_inconsistent zero window first = refl
none_inconsistent (suc count) window first = none_inconsistent count window (first + window)

one_gap : (gaps : List (ℕ × ℕ)) (first n : ℕ) → gaps_from gaps first (replicate (suc n) nothing_shown) ≡ with_gap gaps first (suc n)
one_gap gaps first zero = refl
one_gap gaps first (suc n) =
    let again : suc n + 1 ≡ suc (suc n) = omega arith in
    let long : length (replicate (suc n) nothing_shown) ≡ suc n = length-replicate (suc n) nothing_shown in
    ap (λ (shown : List Shown). gaps_from gaps first shown) (ap (λ (m : ℕ). replicate m nothing_shown) (sym again) ∙ sym (replicate_more (suc n) nothing_shown))
    ∙ sym (gaps_more gaps first (replicate (suc n) nothing_shown) (nothing_shown ∷ []))
    ∙ ap (λ (g : List (ℕ × ℕ)). with_gap g (first + length (replicate (suc n) nothing_shown)) 1) (one_gap gaps first n)
    ∙ ap (λ (m : ℕ). with_gap (with_gap gaps first (suc n)) (first + m) 1) long
    ∙ touching gaps first (suc n) 1
    ∙ ap (with_gap gaps first) again

gap_of : (gaps : List (ℕ × ℕ)) (first n : ℕ) → n ≢ 0 → gaps_from gaps first (replicate n nothing_shown) ≡ with_gap gaps first n
gap_of gaps first zero some = absurd (some refl)
gap_of gaps first (suc n) some = one_gap gaps first n

count_none : {X : Type 0} (test : X → Bool) (x : X) (n count : ℕ) → test x ≡ false → n ≡ n + count_by test (replicate count x)
count_none test x n count isnt =
    let none = sum_by-replicate (λ y. cond (test y) 1 0) count x ∙ ap (λ b. count * cond b 1 0) isnt in
    omega (arith, none)

count_all : {X : Type 0} (test : X → Bool) (x : X) (n count : ℕ) → test x ≡ true → n + count ≡ n + count_by test (replicate count x)
count_all test x n count is =
    let all = sum_by-replicate (λ y. cond (test y) 1 0) count x ∙ ap (λ b. count * cond b 1 0) is in
    omega (arith, all)

-- Skipped windows add to the counts of windows and of missing positions, and are one gap.
pub counts_skipped :
    (sum : FlowSum) (first windows window positions : ℕ) → positions ≡ windows * window → positions ≢ 0
    → record sum { windows = sum.windows + windows; missing = sum.missing + positions; gaps = with_gap sum.gaps first positions }
    ≡ with_plays sum first (empty_plays windows window first)
counts_skipped sum first windows window positions is some =
    let all : replicate positions nothing_shown ≡ all_shown (empty_plays windows window first) =
    ap (λ (n : ℕ). replicate n nothing_shown) is ∙ sym (all_empty windows window first) in
    let shown : sum.shown ≡ sum.shown + count_by shows_word (all_shown (empty_plays windows window first)) =
    count_none shows_word nothing_shown sum.shown positions refl ∙ ap (λ (s : List Shown). sum.shown + count_by shows_word s) all in
    let repaired : sum.repaired ≡ sum.repaired + count_by (λ (s : Shown). s.repaired) (all_shown (empty_plays windows window first)) =
    count_none (λ (s : Shown). s.repaired) nothing_shown sum.repaired positions refl ∙ ap (λ (s : List Shown). sum.repaired + count_by (λ (t : Shown). t.repaired) s) all in
    let missing : sum.missing + positions ≡ sum.missing + count_by (λ (s : Shown). not (shows_word s)) (all_shown (empty_plays windows window first)) =
    count_all (λ (s : Shown). not (shows_word s)) nothing_shown sum.missing positions refl
    ∙ ap (λ (s : List Shown). sum.missing + count_by (λ (t : Shown). not (shows_word t)) s) all in
    let gaps : with_gap sum.gaps first positions ≡ gaps_from sum.gaps first (all_shown (empty_plays windows window first)) =
    sym (gap_of sum.gaps first positions some) ∙ ap (λ (s : List Shown). gaps_from sum.gaps first s) all in
    let played : sum.windows + windows ≡ sum.windows + length (empty_plays windows window first) = ap (λ (n : ℕ). sum.windows + n) (sym (plays_counted windows window first)) in
    let inconsistent : sum.inconsistent ≡ sum.inconsistent + count_by is_inconsistent (empty_plays windows window first) = omega (arith, none_inconsistent windows window first) in
    λ i. record sum { shown = shown i; repaired = repaired i; missing = missing i; gaps = gaps i; windows = played i; inconsistent = inconsistent i }

-- None adds nothing.
pub none_skipped : (sum : FlowSum) (first windows window : ℕ) → windows ≡ 0 → sum ≡ with_plays sum first (empty_plays windows window first)
none_skipped sum first windows window none = counts_none sum first ∙ ap (λ (n : ℕ). with_plays sum first (empty_plays n window first)) (sym none)

pub some_each : (count window : ℕ) → 1 ≤ window → count ≤ count * window
some_each zero window some = omega arith
some_each (suc count) window some =
    let rest = some_each count window some in let next = next_window count window in omega (arith, rest, next, some)

-- The counts stay within what was played.
skipped_within :
    (sum next : FlowSum) (first windows window : ℕ) → CountsWithin sum first → 1 ≤ window
    → next ≡ with_plays sum first (empty_plays windows window first) → CountsWithin next (first + windows * window)
skipped_within sum next first windows window within one counted =
    let some = some_each windows window one in
    let plays = empty_plays windows window first in
    let long = many_empty windows window first in
    let more = shown_within sum first (all_shown plays) within in
    subst (λ (s : FlowSum). CountsWithin s (first + windows * window)) (sym counted)
    (record {
      shown = (let m = more.shown in omega (arith, m, long));
      repaired = (let m = more.repaired in omega (arith, m, long));
      missing = (let m = more.missing in omega (arith, m, long));
      windows = (let w = within.windows in let c = plays_counted windows window first in omega (arith, w, c, some));
      inconsistent = (let w = within.inconsistent in let c = none_inconsistent windows window first in omega (arith, w, c));
      gaps = (let m = more.gaps in omega (arith, m, long));
    })

-- Plays move the mark past what they show, and keep the settings.

abbrev pub Moves : State → List Play → State → Type 0
Moves old plays new = (new.mark ≡ old.mark + length (all_shown plays)) × (new.playout ≡ old.playout)

moves_none : (old new : State) → new ≡ old → Moves old [] new
moves_none old new is =
    let mark = ap (λ (s : State). s.mark) is in
    (omega (arith, mark), ap (λ (s : State). s.playout) is)

moves_next :
    (count : ℕ) (old on next new : State) (play : Play) (plays : List Play) → on.mark ≡ old.mark → on.playout ≡ old.playout
    → IsPlay count on play next → Moves next plays new → Moves old (play ∷ plays) new
moves_next count old on next new play plays mark playout is more =
    let long = length-append play.shown (all_shown plays) in
    let at = is.mark in
    let shown = is.length_is in
    let rest = more.0 in
    (omega (arith, mark, at, shown, rest, long), more.1 ∙ keeps_playout count on play next is ∙ playout)

pub due_moves : (old new : State) (seq ssrc : ℕ) (plays : List Play) → HavePlayed old seq ssrc plays new → Moves old plays new
due_moves old new seq ssrc [] is = moves_none old new is
due_moves old new seq ssrc (play ∷ plays) played =
    let next = played.1.0 in
    moves_next old.playout.window old old next new play plays refl refl played.1.1 (due_moves next new seq ssrc plays played.1.2)

pub flush_moves : (old new : State) (plays : List Play) → AreFlushSteps old plays new → Moves old plays new
flush_moves old new [] is = moves_none old new is
flush_moves old new (play ∷ plays) played =
    let step = played.1 in
    moves_next (min old.playout.window (step.highest + 1 - old.mark)) old old played.0 new play plays refl refl step.plays
    (flush_moves played.0 new plays played.2)

pub held_moves : (old new : State) (time : ℕ) (plays : List Play) → AreHeldSteps old time plays new → Moves old plays new
held_moves old new time [] is = moves_none old new is
held_moves old new time (play ∷ plays) played =
    let step = played.1 in
    moves_next (min old.playout.window (step.greatest + 1 - old.mark)) old (at_time old time) played.0 new play plays refl refl step.plays
    (held_moves played.0 new time plays played.2)

pub skipped_on : (old new : State) (windows : ℕ) → Moves old (empty_plays windows old.playout.window old.mark) new → new.mark ≡ old.mark + windows * old.playout.window
skipped_on old new windows moves = (let mark = moves.0 in let long = many_empty windows old.playout.window old.mark in omega (arith, mark, long))

-- A loop over plays goes on with windows that are skipped.

pub skip_on :
    {Player Still Faults : Type 0} (Are : List Play → State → Type 0) (old : State) (sum : FlowSum) (before : Option Lanes)
    (between new : State) (so_far next : FlowSum) (middle : Option Lanes) (windows positions first : ℕ)
    → HavePlayedOn Are old sum before between so_far middle Player Still Faults
    → ((plays : List Play) → Are plays between → Are (plays ++ empty_plays windows between.playout.window between.mark) new)
    → Moves between (empty_plays windows between.playout.window between.mark) new → 1 ≤ between.playout.window
    → first ≡ between.mark → positions ≡ windows * between.playout.window
    → ((window : ℕ) → positions ≡ windows * window → next ≡ with_plays so_far first (empty_plays windows window first))
    → next.port ≡ so_far.port → HavePlayedOn Are old sum before new next middle Player Still Faults
skip_on Are old sum before between new so_far next middle windows positions first h join moves some at is counted port =
    let window = between.playout.window in
    let plays = empty_plays windows window between.mark in
    let shown = all_shown_more h.so.plays plays in
    let counts : next ≡ with_plays so_far between.mark plays =
    subst (λ (n : ℕ). next ≡ with_plays so_far n (empty_plays windows window n)) at (counted window is) in
    let long = many_empty windows window between.mark in
    record {
      so = record {
        plays = h.so.plays ++ plays;
        are = join h.so.plays h.so.are;
        mark = (let m = h.so.mark in let n = moves.0 in let l = length-append (all_shown h.so.plays) (all_shown plays) in let e = ap length shown in omega (arith, m, n, l, e));
        grows = subst (λ (bytes : List ℕ). Grows before sum.port bytes middle)
            (sym (lane_more h.so.plays plays ∙ ap (λ (bytes : List ℕ). lane_of h.so.plays ++ bytes) (no_lane windows window between.mark) ∙ append-nil (lane_of h.so.plays)))
            h.so.grows;
        counts =
            counts
            ∙ (λ i. with_plays (h.so.counts i) (h.so.mark i) plays)
            ∙ plays_more sum old.mark h.so.plays plays;
      };
      counts =
          subst (CountsWithin next) (let n = moves.0 in omega (arith, n, long))
          (skipped_within so_far next between.mark windows window h.counts some counts);
      port = port ∙ h.port;
      player = h.player;
      still = h.still;
      playout = moves.1 ∙ h.playout;
      faults = h.faults;
    }
