-- After which datagrams each play of a run is made, and what it shows.
use Rattle.std.proofs.Common.{◌≡◌, ◌≢◌, ◌+◌, ◌++◌, ◌^◌, ◌<◌, ◌≤◌, ℕ, List, [], ◌∷◌, length, Option, Some, None, refl, sym, ap, subst, ◌∙◌, append_assoc, append-nil, length-append, inl, inr, arith}
use Rattle.std.proofs.lemmas.List.Elements.{All-head, All-tail, All-nil, All-cons}
use Rattle.std.specs.List.{All}
use Rattle.fg_shape.specs.Playout.{Playout, PlayoutFits}
use Rattle.fg_playout.specs.declared.reply.Reply.{Reply}
use Rattle.fg_playout.specs.State.{State, opening}
use Rattle.fg_playout.specs.Facts.{Holds}
use Rattle.fg_playout.specs.Play.{Play, IsPlay}
use Rattle.fg_playout.specs.Run.{Arrival, carries, protects, refused, time_of, AreHeldPlays, ArePlaysHeld, unlimited, limited, ArePlaysDue, ArePlaysBefore, by_flush, by_due, TakesThen, Takes, TakesAll, IsFlush, IsRun}
use Rattle.fg_playout.specs.Laws.{IsRead, HavePlayed, HavePlayedBefore, still_held, then_played, AreFlushSteps, AreHeldSteps}
use Rattle.fg_playout.specs.PlayedOn.{PlayOn, steps_held_on, held_on, due_on, before_on, taken_then_on, taken_on, all_taken_on, flushed_on, played_on}
use Rattle.fg_playout.specs.SoundPeelings.{PlaysShowSoundPeelings}
use Rattle.fg_playout.specs.PlayedAfter.{OnlyPlayed, by_hold, by_next, by_end, IsMadeAfter, ShowsWhatWasAdmitted, EachAfter, RunsShowWhatWasAdmitted}
use Rattle.fg_playout.specs.Held.{at_time}
use Rattle.fg_playout.specs.Room.{HasRoom}
use Rattle.fg_playout.proofs.Held.{at_time_holds}
use Rattle.fg_playout.proofs.KeptPlayouts.{all_taken_set, flush_steps_set, held_steps_set, played_for_set}
use Rattle.fg_playout.proofs.Joining.{takings_join, plays_due_join, flush_steps_join, held_steps_join}
use Rattle.fg_playout.proofs.PlayedOn.{plays_of, held_plays, taken_plays, all_taken_plays}
use Rattle.fg_playout.proofs.RunFacts.{runs_stay_within, flushes_stay_within}

-- Each play with those before it.

each_append :
    (P : List Play → PlayOn → Type 0) (front : List Play) (one other : List PlayOn) → EachAfter P front one
    → EachAfter P (front ++ plays_of one) other → EachAfter P front (one ++ other)
each_append P front [] other a b = subst (λ (f : List Play). EachAfter P f other) (append-nil front) b
each_append P front (made ∷ one) other a b = (
  a.0,
  each_append P (front ++ made.play ∷ []) one other a.1
      (subst (λ (f : List Play). EachAfter P f other) (sym (append_assoc front (made.play ∷ []) (plays_of one))) b),
)

-- A property of plays since another one, behind more plays.
each_behind :
    (P Q : List Play → PlayOn → Type 0) (front since : List Play) (mades : List PlayOn)
    → ((plays : List Play) (made : PlayOn) → P plays made → Q (front ++ plays) made)
    → EachAfter P since mades → EachAfter Q (front ++ since) mades
each_behind P Q front since [] step all = tt
each_behind P Q front since (made ∷ mades) step all = (
  step since made all.0,
  subst (λ (f : List Play). EachAfter Q f mades) (sym (append_assoc front since (made.play ∷ [])))
      (each_behind P Q front (since ++ made.play ∷ []) mades step all.1),
)

each_stronger :
    (P Q : List Play → PlayOn → Type 0) (front : List Play) (mades : List PlayOn)
    → ((plays : List Play) (made : PlayOn) → P plays made → Q plays made) → EachAfter P front mades → EachAfter Q front mades
each_stronger P Q front [] step all = tt
each_stronger P Q front (made ∷ mades) step all = (step front made all.0, each_stronger P Q (front ++ made.play ∷ []) mades step all.1)

-- A play on its desk, to which another desk has come by plays alone.

abbrev IsMade : PlayOn → Type 0
IsMade made = (count : ℕ) × (next : State) × IsPlay count made.desk made.play next × (count ≤ made.desk.playout.window)

abbrev IsPlayedFrom : State → List Arrival → List Play → PlayOn → Type 0
IsPlayedFrom old later since made = OnlyPlayed old later since made.desk × IsMade made

-- Of a desk after a flush's steps.
flushed_each :
    (P : List Play → State → Type 0) (ready old : State) (front since plays : List Play) (new : State)
    → ((some : List Play) (now : State) → AreFlushSteps ready some now → P (front ++ some) now)
    → AreFlushSteps ready since old → (flush : IsFlush old plays new)
    → EachAfter (λ some made. P some made.desk × IsMade made) (front ++ since) (flushed_on old plays new flush)
flushed_each P ready old front since [] new step so flush = tt
flushed_each P ready old front since (play ∷ plays) new step so flush = (
  (step since old so, (_, flush.0, flush.1.plays, omega arith)),
  subst (λ (f : List Play). EachAfter (λ some made. P some made.desk × IsMade made) f (flushed_on flush.0 plays new flush.2))
      (sym (append_assoc front since (play ∷ [])))
      (flushed_each P ready flush.0 front (since ++ play ∷ []) plays new step
      (flush_steps_join ready old flush.0 since (play ∷ []) so (flush.0, flush.1, refl)) flush.2),
)

-- Of one after plays that are due.
due_each :
    (P : List Play → State → Type 0) (ready old : State) (seq ssrc : ℕ) (front since plays : List Play) (new : State)
    → ((some : List Play) (now : State) → HavePlayed ready seq ssrc some now → P (front ++ some) now)
    → HavePlayed ready seq ssrc since old → (due : ArePlaysDue old seq ssrc plays new)
    → EachAfter (λ some made. P some made.desk × IsMade made) (front ++ since) (due_on old seq ssrc plays new due)
due_each P ready old seq ssrc front since [] new step so due = tt
due_each P ready old seq ssrc front since (play ∷ plays) new step so due = (
  (step since old so, (old.playout.window, due.1.0, due.1.1, omega arith)),
  subst (λ (f : List Play). EachAfter (λ some made. P some made.desk × IsMade made) f (due_on due.1.0 seq ssrc plays new due.1.2))
      (sym (append_assoc front since (play ∷ [])))
      (due_each P ready due.1.0 seq ssrc front (since ++ play ∷ []) plays new step
      (plays_due_join ready old due.1.0 seq ssrc since (play ∷ []) so (due.0, (due.1.0, due.1.1, refl))) due.1.2),
)

-- Held plays before the next datagram.
steps_held_each :
    (ready old : State) (next : Arrival) (others : List Arrival) (since plays : List Play) (new : State) → ready.playout.hold ≢ 0
    → AreHeldSteps ready (time_of next) since old → (steps : AreHeldPlays old (time_of next) plays new)
    → EachAfter (IsPlayedFrom ready (next ∷ others)) since (steps_held_on old (time_of next) plays new steps)
steps_held_each ready old next others since [] new some so steps = tt
steps_held_each ready old next others since (play ∷ plays) new some so steps = (
  (by_hold next others old refl some so refl, (_, steps.0, steps.1.plays, omega arith)),
  steps_held_each ready steps.0 next others (since ++ play ∷ []) plays new some
      (held_steps_join ready old steps.0 (time_of next) since (play ∷ []) so (steps.0, steps.1, refl)) steps.2,
)

held_each :
    (old : State) (next : Arrival) (others : List Arrival) (plays : List Play) (new : State) (holds : ArePlaysHeld old (time_of next) plays new)
    → EachAfter (IsPlayedFrom old (next ∷ others)) [] (held_on old (time_of next) plays new holds)
held_each old next others plays new (unlimited none no_plays same) = tt
held_each old next others plays new (limited some steps) = steps_held_each old old next others [] plays new some refl steps

-- What else is played before it.
before_each :
    (P : List Play → State → Type 0) (old : State) (seq ssrc : ℕ) (front plays : List Play) (new : State)
    → ((some : List Play) (now : State) → HavePlayedBefore old seq ssrc some now → P (front ++ some) now)
    → (are : ArePlaysBefore old seq ssrc plays new)
    → EachAfter (λ some made. P some made.desk × IsMade made) (front ++ []) (before_on old seq ssrc plays new are)
before_each P old seq ssrc front plays new step (by_flush empty fresh flush counts) =
    flushed_each P old old front [] plays empty (λ some now steps. step some now (inl (fresh, steps))) refl flush
before_each P old seq ssrc front plays new step (by_due stale due) =
    due_each P old old seq ssrc front [] plays new (λ some now played. step some now (inr (stale, played))) refl due

then_each :
    (old : State) (next : Arrival) (others : List Arrival) (held : List Play) (ready : State) (after : List Play) (reply : Option Reply) (new : State)
    → ArePlaysHeld old (time_of next) held ready → (takes : TakesThen ready next after reply new)
    → EachAfter (IsPlayedFrom old (next ∷ others)) held (taken_then_on ready next after reply new takes)
then_each old (carries time seq ssrc word) others held ready after None new holds takes = absurd takes
then_each old (carries time seq ssrc word) others held ready after (Some reply) new holds takes =
    let next : Arrival = carries time seq ssrc word in
    subst (λ (f : List Play). EachAfter (IsPlayedFrom old (next ∷ others)) f (before_on ready seq ssrc after takes.0 takes.1)) (append-nil held)
    (before_each (λ some now. OnlyPlayed old (next ∷ others) some now) ready seq ssrc held after takes.0
    (λ some now played. by_next next others refl (then_played held some ready holds refl played)) takes.1)
then_each old (protects time stream parity) others held ready after reply new holds takes = tt
then_each old (refused time stream) others held ready after reply new holds takes = tt

taken_each :
    (old : State) (next : Arrival) (others : List Arrival) (plays : List Play) (reply : Option Reply) (new : State) (takes : Takes old next plays reply new)
    → EachAfter (IsPlayedFrom old (next ∷ others)) [] (taken_on old next plays reply new takes)
taken_each old next others plays reply new takes =
    let then : List PlayOn = taken_then_on takes.ready next takes.after reply new takes.takes in
    each_append (IsPlayedFrom old (next ∷ others)) [] (held_on old (time_of next) takes.held takes.ready takes.holds) then
    (held_each old next others takes.held takes.ready takes.holds)
    (subst (λ (f : List Play). EachAfter (IsPlayedFrom old (next ∷ others)) f then)
    (sym (held_plays old (time_of next) takes.held takes.ready takes.holds))
    (then_each old next others takes.held takes.ready takes.after reply new takes.holds takes.takes))

-- The plays of a run.

abbrev IsMadeInRun : Playout → List Arrival → List Play → PlayOn → Type 0
IsMadeInRun playout arrivals front made = ((earlier : List Arrival) × IsMadeAfter playout arrivals front made earlier) × IsMade made

-- A play since some datagrams were taken.
made_since :
    (playout : Playout) (arrivals earlier later : List Arrival) (plays : List Play) (replies : List (Option Reply)) (taken : State)
    → arrivals ≡ earlier ++ later → TakesAll (opening playout) earlier plays replies taken
    → (since : List Play) (made : PlayOn) → IsPlayedFrom taken later since made → IsMadeInRun playout arrivals (plays ++ since) made
made_since playout arrivals earlier later plays replies taken same takes since made played = (
  (
    earlier,
    record {
      later = later;
      arrivals_are = same;
      taken = taken;
      plays = plays;
      replies = replies;
      takes = takes;
      since = since;
      only_played = played.0;
      front_is = refl;
    },
  ),
  played.1,
)

all_each :
    (playout : Playout) (earlier arrivals : List Arrival) (front plays : List Play) (first replies : List (Option Reply)) (old new : State)
    → TakesAll (opening playout) earlier front first old → (takes : TakesAll old arrivals plays replies new)
    → EachAfter (IsMadeInRun playout (earlier ++ arrivals)) front (all_taken_on old arrivals plays replies new takes)
all_each playout earlier [] front plays first replies old new before takes = tt
all_each playout earlier (arrival ∷ arrivals) front plays first [] old new before takes = absurd takes
all_each playout earlier (arrival ∷ arrivals) front plays first (reply ∷ replies) old new before takes =
    let all : List Arrival = earlier ++ (arrival ∷ arrivals) in
    let here : List PlayOn = taken_on old arrival takes.0 reply takes.2 takes.4 in
    let rest : List PlayOn = all_taken_on takes.2 arrivals takes.1 replies new takes.5 in
    let one : TakesAll old (arrival ∷ []) takes.0 (reply ∷ []) takes.2 =
    (takes.0, [], takes.2, sym (append-nil takes.0), takes.4, (refl, refl, refl)) in
    let more : EachAfter (IsMadeInRun playout ((earlier ++ arrival ∷ []) ++ arrivals)) (front ++ takes.0) rest =
    all_each playout (earlier ++ arrival ∷ []) arrivals (front ++ takes.0) takes.1 (first ++ reply ∷ []) replies takes.2 new
    (takings_join (opening playout) old takes.2 earlier (arrival ∷ []) front takes.0 first (reply ∷ []) before one) takes.5 in
    each_append (IsMadeInRun playout all) front here rest
    (subst (λ (f : List Play). EachAfter (IsMadeInRun playout all) f here) (append-nil front)
    (each_behind (IsPlayedFrom old (arrival ∷ arrivals)) (IsMadeInRun playout all) front [] here
    (made_since playout all earlier (arrival ∷ arrivals) front first old refl before)
    (taken_each old arrival arrivals takes.0 reply takes.2 takes.4)))
    (subst (λ (f : List Play). EachAfter (IsMadeInRun playout all) f rest)
    (ap (λ (ps : List Play). front ++ ps) (sym (taken_plays old arrival takes.0 reply takes.2 takes.4)))
    (subst (λ (list : List Arrival). EachAfter (IsMadeInRun playout list) (front ++ takes.0) rest)
    (append_assoc earlier (arrival ∷ []) arrivals) more))

run_each :
    (playout : Playout) (arrivals : List Arrival) (plays : List Play) (replies : List (Option Reply)) (run : IsRun playout arrivals plays replies)
    → EachAfter (IsMadeInRun playout arrivals) [] (played_on playout arrivals plays replies run)
run_each playout arrivals plays replies run =
    let taken : List PlayOn = all_taken_on (opening playout) arrivals run.taken replies run.filled run.takes in
    let flushed : List PlayOn = flushed_on run.filled run.flushed run.empty run.flush in
    let steps : EachAfter (IsPlayedFrom run.filled []) [] flushed =
    flushed_each (λ some now. OnlyPlayed run.filled [] some now) run.filled run.filled [] [] run.flushed run.empty
    (λ some now made. by_end refl made) refl run.flush in
    each_append (IsMadeInRun playout arrivals) [] taken flushed
    (all_each playout [] arrivals [] run.taken [] replies (opening playout) run.filled (refl, refl, refl) run.takes)
    (subst (λ (f : List Play). EachAfter (IsMadeInRun playout arrivals) f flushed)
    (append-nil run.taken ∙ sym (all_taken_plays (opening playout) arrivals run.taken replies run.filled run.takes))
    (each_behind (IsPlayedFrom run.filled []) (IsMadeInRun playout arrivals) run.taken [] flushed
    (made_since playout arrivals arrivals [] run.taken replies run.filled (sym (append-nil arrivals)) run.takes) steps))

-- The facts hold of its desk.

front_is_read : (one other : List Arrival) → All IsRead (one ++ other) → All IsRead one
front_is_read [] other all = All-nil IsRead
front_is_read (arrival ∷ one) other all = All-cons IsRead arrival one (All-head IsRead arrival (one ++ other) all)
    (front_is_read one other (All-tail IsRead arrival (one ++ other) all))

abbrev IsInOrder : State → Type 0
IsInOrder desk = Holds desk × HasRoom desk

told_in_order : (desk : State) (time : ℕ) → IsInOrder desk → IsInOrder (at_time desk time)
told_in_order desk time is = (at_time_holds desk time is.0, record { mark = is.1.mark; top = is.1.top; calls = is.1.calls })

in_order_after :
    (playout : Playout) (earlier later : List Arrival) (plays since : List Play) (replies : List (Option Reply)) (taken desk : State)
    → PlayoutFits playout → All IsRead earlier → length earlier < 2 ^ 44 → TakesAll (opening playout) earlier plays replies taken
    → OnlyPlayed taken later since desk → IsInOrder desk
in_order_after playout earlier later plays since replies taken desk fits read few takes (by_hold next others now comes some steps same) =
    let is = runs_stay_within playout next earlier plays since replies taken now fits.window.0 fits.window.1 fits.depth.0 fits.depth.1 read few takes
    (still_held some steps) in
    subst IsInOrder (sym same) (told_in_order now (time_of next) (is.0, is.1))
in_order_after playout earlier later plays since replies taken desk fits read few takes (by_next next others comes played) =
    let is = runs_stay_within playout next earlier plays since replies taken desk fits.window.0 fits.window.1 fits.depth.0 fits.depth.1 read few takes
    played in
    (is.0, is.1)
in_order_after playout earlier later plays since replies taken desk fits read few takes (by_end none steps) =
    flushes_stay_within playout earlier plays since replies taken desk fits.window.0 fits.window.1 fits.depth.0 fits.depth.1 read few takes steps

-- And it is set as the flow is.
only_played_set : (old : State) (later : List Arrival) (plays : List Play) (desk : State) → OnlyPlayed old later plays desk → desk.playout ≡ old.playout
only_played_set old later plays desk (by_hold next others now comes some steps same) =
    ap (λ (s : State). s.playout) same ∙ held_steps_set old (time_of next) plays now steps
only_played_set old later plays desk (by_next next others comes played) = played_for_set old next plays desk played
only_played_set old later plays desk (by_end none steps) = flush_steps_set old plays desk steps

pub runs_show_what_was_admitted : PlaysShowSoundPeelings → RunsShowWhatWasAdmitted
runs_show_what_was_admitted shows playout arrivals plays replies run fits read few =
    each_stronger (IsMadeInRun playout arrivals) (ShowsWhatWasAdmitted playout arrivals) [] (played_on playout arrivals plays replies run)
    (λ front made is.
    let after = is.0.1 in
    let read' : All IsRead is.0.0 = front_is_read is.0.0 after.later (subst (λ (list : List Arrival). All IsRead list) after.arrivals_are read) in
    let long : length arrivals ≡ length is.0.0 + length after.later =
    ap (λ (list : List Arrival). length list) after.arrivals_are ∙ length-append is.0.0 after.later in
    let is_set : made.desk.playout ≡ playout =
    only_played_set after.taken after.later after.since made.desk after.only_played
    ∙ all_taken_set (opening playout) is.0.0 after.plays after.replies after.taken after.takes in
    let in_order : IsInOrder made.desk = in_order_after playout is.0.0 after.later after.plays after.since after.replies after.taken made.desk fits read'
    (omega (arith, long, few)) after.takes after.only_played in
    record {
      earlier = is.0.0;
      after = after;
      playout_is = is_set;
      holds = in_order.0;
      room = in_order.1;
      count = is.1.0;
      few = subst (λ (p : Playout). is.1.0 ≤ p.window) is_set is.1.3;
      next = is.1.1;
      is_play = is.1.2;
      shows = shows is.1.0 made.desk is.1.1 made.play in_order.0 is.1.2;
    })
    (run_each playout arrivals plays replies run)
