-- A loop over plays goes round: it makes a play, and skips windows that show nothing.
use Rattle.std.proofs.Common.{◌≡◌, ◌≢◌, ◌+◌, ◌-◌, ◌*◌, ◌<◌, ◌≤◌, ◌^◌, ◌++◌, min, ℕ, List, [], ◌∷◌, length, Option, Some, inr, refl, sym, subst, ◌∙◌, arith}
use Rattle.std.proofs.lemmas.List.{append-nil}
use Rattle.fg_io.specs.Outlet.{Lanes}
use Rattle.fg_shape.specs.Playout.{Playout}
use Rattle.fg_playout.specs.State.{State}
use Rattle.fg_playout.specs.Admission.{IsDue, IsFresh}
use Rattle.fg_playout.specs.Facts.{Holds}
use Rattle.fg_playout.specs.Play.{Play, Shown, IsPlay, IsFlushStep}
use Rattle.fg_playout.specs.Held.{IsHeldStep, at_time}
use Rattle.fg_playout.specs.Room.{HasRoom, farthest_limit}
use Rattle.fg_playout.specs.Laws.{HavePlayed, AreFlushSteps, AreHeldSteps, PlaysDueJoin, FlushStepsJoin, HeldStepsJoin}
use Rattle.fg_playout.specs.Empty.{empty_plays}
use Rattle.fg_desk.specs.Arrivals.{HeldWithin, FlushesWithin, ThenStaysWithin}
use Rattle.fg_desk.specs.declared.desk.Played.{Played}
use Rattle.fg_report.specs.declared.flow_sum.FlowSum.{FlowSum}
use Rattle.fg_results.specs.Flow.{lane_of}
use Rattle.fg_engine.specs.declared.window.Skipped.{Skipped}
use Rattle.fg_engine.specs.Steps.{with_plays, played_as, CountsWithin, SkipsWithin, Grows, BreakOff}
use Rattle.fg_engine.proofs.Showing.{HavePlayedOn, one_more_shown, one_play_more, within_one_more, keeps_playout, due_after, step_after, held_after, step_shows, held_shows}
use Rattle.fg_engine.proofs.Skipping.{Moves, due_moves, flush_moves, held_moves, many_empty, skip_on, some_each}

-- The windows that are skipped, as plays.
abbrev empty_ones : Skipped → State → List Play
empty_ones skipped desk = empty_plays skipped.windows desk.playout.window desk.mark

-- One round: a play of one position at least, from `on`, where the desk has been told a time, and then the windows that are
-- skipped. Both go on with such plays.
pub record IsRound
    (Are : List Play → State → Type 0) (from : State) (played : Played) (shown : List Shown) (to : State)
    (skipped : Skipped) (new : State) : Type 0 where
  pub on : State
  pub mark : on.mark ≡ from.mark
  pub playout : on.playout ≡ from.playout
  pub count : ℕ
  pub some : 1 ≤ count
  pub window : 1 ≤ from.playout.window
  pub play : IsPlay count on (played_as played shown) to
  pub counted : played.count ≡ length shown
  pub plays_on : (plays : List Play) → Are plays from → Are (plays ++ played_as played shown ∷ []) to
  pub skips_on : (plays : List Play) → Are plays to → Are (plays ++ empty_ones skipped to) new
  pub moves : Moves to (empty_ones skipped to) new
  pub positions : skipped.positions ≡ skipped.windows * to.playout.window
  pub before : from.mark < farthest_limit
  pub below : new.mark < farthest_limit

-- What a round leaves

module _
    {Are : List Play → State → Type 0} {from : State} {played : Played} {shown : List Shown} {to : State} {skipped : Skipped} {new : State}
    (round : IsRound Are from played shown to skipped new) where
  -- The position behind the play is the mark.
  behind : played.first + played.count ≡ to.mark
  behind =
      let first = round.play.first in let mark = round.play.mark in let long = round.play.length_is in let counted = round.counted in
      omega (arith, first, mark, long, counted)

  played_on : to.playout ≡ from.playout
  played_on = keeps_playout round.count round.on (played_as played shown) to round.play ∙ round.playout

  some_window : 1 ≤ to.playout.window
  some_window = subst (λ (p : Playout). 1 ≤ p.window) (sym played_on) round.window

  each_has_positions : skipped.windows ≤ skipped.positions
  each_has_positions =
      let each = some_each skipped.windows to.playout.window some_window in let is = round.positions in omega (arith, each, is)

  positions_fit : played.first + played.count + skipped.positions ≤ 2 ^ 62
  positions_fit =
      let long = many_empty skipped.windows to.playout.window to.mark in
      let mark = round.moves.0 in let at = behind in let is = round.positions in let below = round.below in
      omega (arith, long, mark, at, is, below)

  -- The loop ends.
  pub farther : farthest_limit - new.mark < farthest_limit - from.mark
  farther =
      let at = round.mark in let first = round.play.mark in let long = round.play.length_is in let some = round.some in
      let more = round.moves.0 in let before = round.before in omega (arith, at, first, long, some, more, before)

  module _
      {old : State} {sum so_far : FlowSum} {earlier middle : Option Lanes} {Player Still Faults : Type 0}
      (h : HavePlayedOn Are old sum earlier from so_far middle Player Still Faults) where
    pub keeps : new.playout ≡ old.playout
    keeps = round.moves.1 ∙ played_on ∙ h.playout

    module _ {next : FlowSum} (counted : next ≡ with_plays so_far played.first (played_as played shown ∷ [])) where
      pub skips_within : SkipsWithin next (played.first + played.count) skipped
      skips_within = record {
        within =
            subst (CountsWithin next) (sym behind)
            (within_one_more round.count round.on to so_far next (played_as played shown) (subst (CountsWithin so_far) (sym round.mark) h.counts)
            round.play round.some counted);
        limit = positions_fit;
        some = each_has_positions;
      }

      module _ {after : Option Lanes} (grows : Grows middle so_far.port (lane_of (played_as played shown ∷ [])) after) where
        -- A fault behind the play.
        pub broken : BreakOff Are sum.port earlier after
        broken =
            let so =
            one_more_shown Are old sum earlier round.count from round.on to so_far next middle after (played_as played shown) h.so round.mark
            round.plays_on round.play h.port counted grows in
            record {
              plays = so.plays;
              now = to;
              are = so.are;
              part = (lane_of so.plays, ([], sym (append-nil (lane_of so.plays))), so.grows);
            }

        pub goes_on :
            {last : FlowSum} {Player' Still' Faults' : Type 0} → next.port ≡ so_far.port → Player' → Still' → Faults'
            → ((window : ℕ) → skipped.positions ≡ skipped.windows * window → last
            ≡ with_plays next (played.first + played.count) (empty_plays skipped.windows window (played.first + played.count)))
            → last.port ≡ next.port → HavePlayedOn Are old sum earlier new last after Player' Still' Faults'
        goes_on {last} port player still faults skips kept =
            skip_on Are old sum earlier to new next last after skipped.windows skipped.positions (played.first + played.count)
            (one_play_more Are old sum earlier round.count from round.on to so_far next middle after (played_as played shown) h round.mark
            round.playout round.plays_on round.play round.some counted grows port player still faults)
            round.skips_on round.moves some_window behind round.positions skips kept

-- Which rounds there are

-- The facts hold of all desks that such plays leave, and they have room.
abbrev LeaveRoom : (List Play → State → Type 0) → Type 0
LeaveRoom Are = (plays : List Play) (desk : State) → Are plays desk → Holds desk × HasRoom desk

module _
    {Player Still Faults : Type 0} {sum so_far : FlowSum} {earlier middle : Option Lanes} {old from to new : State}
    {shown : List Shown} (played : Played) (skipped : Skipped) (counted : played.count ≡ length shown)
    (positions : skipped.positions ≡ skipped.windows * to.playout.window) where
  round_of :
      (Are : List Play → State → Type 0) (on : State) (count : ℕ) → LeaveRoom Are
      → HavePlayedOn Are old sum earlier from so_far middle Player Still Faults → on.mark ≡ from.mark → on.playout ≡ from.playout
      → (1 ≤ from.playout.window → 1 ≤ count) → IsPlay count on (played_as played shown) to
      → ((plays : List Play) → Are plays from → Are (plays ++ played_as played shown ∷ []) to)
      → ((plays : List Play) → Are plays to → Are (plays ++ empty_ones skipped to) new) → Moves to (empty_ones skipped to) new
      → IsRound Are from played shown to skipped new
  round_of Are on count leave h mark playout some play plays_on skips_on moves =
      let here = leave h.so.plays from h.so.are in
      let plays = h.so.plays ++ played_as played shown ∷ [] in
      let there = leave (plays ++ empty_ones skipped to) new (skips_on plays (plays_on h.so.plays h.so.are)) in
      record {
        on = on;
        mark = mark;
        playout = playout;
        count = count;
        some = some here.0.window.0;
        window = here.0.window.0;
        play = play;
        counted = counted;
        plays_on = plays_on;
        skips_on = skips_on;
        moves = moves;
        positions = positions;
        before = here.1.mark;
        below = there.1.mark;
      }

  -- Plays that are due.
  pub due_round :
      (seq ssrc : ℕ) → PlaysDueJoin → ThenStaysWithin old → ¬ IsFresh old ssrc
      → HavePlayedOn (HavePlayed old seq ssrc) old sum earlier from so_far middle Player Still Faults → IsDue from seq ssrc
      → IsPlay from.playout.window from (played_as played shown) to → HavePlayed to seq ssrc (empty_ones skipped to) new
      → IsRound (HavePlayed old seq ssrc) from played shown to skipped new
  due_round seq ssrc join within stale h due play skips =
      round_of (HavePlayed old seq ssrc) from from.playout.window
      (λ plays desk are. (let stays = within seq ssrc plays desk (inr (stale, are)) in (stays.0, stays.1))) h refl refl (λ some. some) play
      (due_after old from to seq ssrc (played_as played shown) join due play)
      (λ plays are. join old to new seq ssrc plays (empty_ones skipped to) are skips)
      (due_moves to new seq ssrc (empty_ones skipped to) skips)

  -- Steps of a flush.
  pub flush_round :
      FlushStepsJoin → FlushesWithin old → HavePlayedOn (AreFlushSteps old) old sum earlier from so_far middle Player Still Faults
      → IsFlushStep from (played_as played shown) to → AreFlushSteps to (empty_ones skipped to) new
      → IsRound (AreFlushSteps old) from played shown to skipped new
  flush_round join within h step skips =
      round_of (AreFlushSteps old) from (min from.playout.window (step.highest + 1 - from.mark)) within h refl refl
      (step_shows from to (played_as played shown) step) step.plays (step_after old from to (played_as played shown) join step)
      (λ plays are. join old to new plays (empty_ones skipped to) are skips) (flush_moves to new (empty_ones skipped to) skips)

  -- Held plays.
  pub held_round :
      (time : ℕ) → HeldStepsJoin → HeldWithin old time → old.playout.hold ≢ 0
      → HavePlayedOn (AreHeldSteps old time) old sum earlier from so_far middle Player Still Faults
      → IsHeldStep from time (Some (played_as played shown)) to → AreHeldSteps to time (empty_ones skipped to) new
      → IsRound (AreHeldSteps old time) from played shown to skipped new
  held_round time join within some h step skips =
      round_of (AreHeldSteps old time) (at_time from time) (min from.playout.window (step.greatest + 1 - from.mark))
      (λ plays desk are. (let stays = within some plays desk are in (stays.0, stays.1))) h refl refl
      (held_shows from to time (played_as played shown) step) step.plays
      (held_after old from to time (played_as played shown) join step)
      (λ plays are. join old to new time plays (empty_ones skipped to) are skips)
      (held_moves to new time (empty_ones skipped to) skips)
