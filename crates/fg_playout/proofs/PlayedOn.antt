-- A run's plays and the desks that they are made on.
use Rattle.std.proofs.Common.{◌≡◌, ◌++◌, ℕ, List, [], ◌∷◌, map, Option, Some, None, refl, sym, ap, subst, ◌∙◌}
use Rattle.std.proofs.lemmas.List.{map-append}
use Rattle.std.proofs.lemmas.List.Elements.{All-head, All-tail, All-nil, All-cons, All-append}
use Rattle.std.specs.List.{All}
use Rattle.fg_peel.specs.Laws.{Uniqueness}
use Rattle.fg_playout.specs.declared.reply.Reply.{Reply}
use Rattle.fg_playout.specs.State.{State, opening}
use Rattle.fg_playout.specs.Admission.{IsDue, IsFresh}
use Rattle.fg_playout.specs.Play.{Play, IsPlay, IsFlushStep}
use Rattle.fg_playout.specs.Held.{at_time, IsHeldPlay}
use Rattle.fg_playout.specs.Run.{Arrival, carries, protects, refused, time_of, AreHeldPlays, ArePlaysHeld, unlimited, limited, ArePlaysDue, ArePlaysBefore, by_flush, by_due, TakesThen, Takes, TakesAll, IsFlush}
use Rattle.fg_playout.specs.Laws.{IsRead}
use Rattle.fg_playout.specs.PlayedOn.{PlayOn, steps_held_on, held_on, due_on, before_on, taken_then_on, taken_on, all_taken_on, flushed_on, PlaysAreTheRuns, DesksMakeThePlays, OneListOfDesks}
use Rattle.fg_playout.proofs.Orderly.{IsOrderly, orderly_opening}
use Rattle.fg_playout.proofs.Plays.{orderly_after_play}
use Rattle.fg_playout.proofs.OnePlay.{one_play, one_state_after, one_flush_step, one_state_after_step}
use Rattle.fg_playout.proofs.Held.{at_time_orderly, one_held_play, one_state_after_held}
use Rattle.fg_playout.proofs.OneRun.{one_holding, one_taking, one_taking_all}

-- Its plays

abbrev pub plays_of : List PlayOn → List Play
plays_of = map (λ (made : PlayOn). made.play)

due_plays : (old : State) (seq ssrc : ℕ) (plays : List Play) (new : State) (due : ArePlaysDue old seq ssrc plays new) → plays_of (due_on old seq ssrc plays new due) ≡ plays
due_plays old seq ssrc [] new due = refl
due_plays old seq ssrc (play ∷ plays) new due = ap (λ (ps : List Play). play ∷ ps) (due_plays due.1.0 seq ssrc plays new due.1.2)

pub flushed_plays : (old : State) (plays : List Play) (new : State) (flush : IsFlush old plays new) → plays_of (flushed_on old plays new flush) ≡ plays
flushed_plays old [] new flush = refl
flushed_plays old (play ∷ plays) new flush = ap (λ (ps : List Play). play ∷ ps) (flushed_plays flush.0 plays new flush.2)

before_plays :
    (old : State) (seq ssrc : ℕ) (plays : List Play) (new : State) (before : ArePlaysBefore old seq ssrc plays new)
    → plays_of (before_on old seq ssrc plays new before) ≡ plays
before_plays old seq ssrc plays new (by_flush empty fresh flush counts) = flushed_plays old plays empty flush
before_plays old seq ssrc plays new (by_due stale due) = due_plays old seq ssrc plays new due

then_plays :
    (old : State) (arrival : Arrival) (plays : List Play) (reply : Option Reply) (new : State) (takes : TakesThen old arrival plays reply new)
    → plays_of (taken_then_on old arrival plays reply new takes) ≡ plays
then_plays old (carries time seq ssrc word) plays None new takes = absurd takes
then_plays old (carries time seq ssrc word) plays (Some reply) new takes = before_plays old seq ssrc plays takes.0 takes.1
then_plays old (protects time stream parity) plays None new takes = absurd takes
then_plays old (protects time stream parity) plays (Some reply) new takes = sym takes.0
then_plays old (refused time stream) plays None new takes = sym takes.0
then_plays old (refused time stream) plays (Some reply) new takes = absurd takes

steps_held_plays :
    (old : State) (time : ℕ) (plays : List Play) (new : State) (steps : AreHeldPlays old time plays new)
    → plays_of (steps_held_on old time plays new steps) ≡ plays
steps_held_plays old time [] new steps = refl
steps_held_plays old time (play ∷ plays) new steps = ap (λ (ps : List Play). play ∷ ps) (steps_held_plays steps.0 time plays new steps.2)

pub held_plays :
    (old : State) (time : ℕ) (plays : List Play) (new : State) (holds : ArePlaysHeld old time plays new)
    → plays_of (held_on old time plays new holds) ≡ plays
held_plays old time plays new (unlimited none no_plays same) = sym no_plays
held_plays old time plays new (limited some steps) = steps_held_plays old time plays new steps

pub taken_plays :
    (old : State) (arrival : Arrival) (plays : List Play) (reply : Option Reply) (new : State) (takes : Takes old arrival plays reply new)
    → plays_of (taken_on old arrival plays reply new takes) ≡ plays
taken_plays old arrival plays reply new takes =
    let held = held_plays old (time_of arrival) takes.held takes.ready takes.holds in
    let rest = then_plays takes.ready arrival takes.after reply new takes.takes in
    map-append (λ (made : PlayOn). made.play) (held_on old (time_of arrival) takes.held takes.ready takes.holds)
    (taken_then_on takes.ready arrival takes.after reply new takes.takes)
    ∙ (λ i. held i ++ rest i) ∙ sym takes.plays_are

pub all_taken_plays :
    (old : State) (arrivals : List Arrival) (plays : List Play) (replies : List (Option Reply)) (new : State)
    (takes : TakesAll old arrivals plays replies new) → plays_of (all_taken_on old arrivals plays replies new takes) ≡ plays
all_taken_plays old [] plays replies new takes = sym takes.0
all_taken_plays old (arrival ∷ arrivals) plays [] new takes = absurd takes
all_taken_plays old (arrival ∷ arrivals) plays (reply ∷ replies) new takes =
    let first = taken_plays old arrival takes.0 reply takes.2 takes.4 in
    let rest = all_taken_plays takes.2 arrivals takes.1 replies new takes.5 in
    map-append (λ (made : PlayOn). made.play) (taken_on old arrival takes.0 reply takes.2 takes.4)
    (all_taken_on takes.2 arrivals takes.1 replies new takes.5)
    ∙ (λ i. first i ++ rest i) ∙ sym takes.3

pub plays_are_the_runs : PlaysAreTheRuns
plays_are_the_runs playout arrivals plays replies run =
    let taken = all_taken_plays (opening playout) arrivals run.taken replies run.filled run.takes in
    let flushed = flushed_plays run.filled run.flushed run.empty run.flush in
    map-append (λ (made : PlayOn). made.play) (all_taken_on (opening playout) arrivals run.taken replies run.filled run.takes)
    (flushed_on run.filled run.flushed run.empty run.flush)
    ∙ (λ i. taken i ++ flushed i) ∙ sym run.plays_are

-- Each is a play of its desk

abbrev IsMade : PlayOn → Type 0
IsMade made = (count : ℕ) × (next : State) × IsPlay count made.desk made.play next

due_made : (old : State) (seq ssrc : ℕ) (plays : List Play) (new : State) (due : ArePlaysDue old seq ssrc plays new) → All IsMade (due_on old seq ssrc plays new due)
due_made old seq ssrc [] new due = All-nil IsMade
due_made old seq ssrc (play ∷ plays) new due =
    All-cons IsMade (record { desk = old; play = play }) (due_on due.1.0 seq ssrc plays new due.1.2)
    (old.playout.window, due.1.0, due.1.1) (due_made due.1.0 seq ssrc plays new due.1.2)

flushed_made : (old : State) (plays : List Play) (new : State) (flush : IsFlush old plays new) → All IsMade (flushed_on old plays new flush)
flushed_made old [] new flush = All-nil IsMade
flushed_made old (play ∷ plays) new flush =
    All-cons IsMade (record { desk = old; play = play }) (flushed_on flush.0 plays new flush.2)
    (_, flush.0, flush.1.plays) (flushed_made flush.0 plays new flush.2)

before_made :
    (old : State) (seq ssrc : ℕ) (plays : List Play) (new : State) (before : ArePlaysBefore old seq ssrc plays new)
    → All IsMade (before_on old seq ssrc plays new before)
before_made old seq ssrc plays new (by_flush empty fresh flush counts) = flushed_made old plays empty flush
before_made old seq ssrc plays new (by_due stale due) = due_made old seq ssrc plays new due

then_made :
    (old : State) (arrival : Arrival) (plays : List Play) (reply : Option Reply) (new : State) (takes : TakesThen old arrival plays reply new)
    → All IsMade (taken_then_on old arrival plays reply new takes)
then_made old (carries time seq ssrc word) plays None new takes = absurd takes
then_made old (carries time seq ssrc word) plays (Some reply) new takes = before_made old seq ssrc plays takes.0 takes.1
then_made old (protects time stream parity) plays reply new takes = All-nil IsMade
then_made old (refused time stream) plays reply new takes = All-nil IsMade

steps_held_made :
    (old : State) (time : ℕ) (plays : List Play) (new : State) (steps : AreHeldPlays old time plays new)
    → All IsMade (steps_held_on old time plays new steps)
steps_held_made old time [] new steps = All-nil IsMade
steps_held_made old time (play ∷ plays) new steps =
    All-cons IsMade (record { desk = at_time old time; play = play }) (steps_held_on steps.0 time plays new steps.2)
    (_, steps.0, steps.1.plays) (steps_held_made steps.0 time plays new steps.2)

held_made :
    (old : State) (time : ℕ) (plays : List Play) (new : State) (holds : ArePlaysHeld old time plays new)
    → All IsMade (held_on old time plays new holds)
held_made old time plays new (unlimited none no_plays same) = All-nil IsMade
held_made old time plays new (limited some steps) = steps_held_made old time plays new steps

taken_made :
    (old : State) (arrival : Arrival) (plays : List Play) (reply : Option Reply) (new : State) (takes : Takes old arrival plays reply new)
    → All IsMade (taken_on old arrival plays reply new takes)
taken_made old arrival plays reply new takes =
    All-append IsMade (held_on old (time_of arrival) takes.held takes.ready takes.holds)
    (taken_then_on takes.ready arrival takes.after reply new takes.takes)
    (held_made old (time_of arrival) takes.held takes.ready takes.holds)
    (then_made takes.ready arrival takes.after reply new takes.takes)

all_taken_made :
    (old : State) (arrivals : List Arrival) (plays : List Play) (replies : List (Option Reply)) (new : State)
    (takes : TakesAll old arrivals plays replies new) → All IsMade (all_taken_on old arrivals plays replies new takes)
all_taken_made old [] plays replies new takes = All-nil IsMade
all_taken_made old (arrival ∷ arrivals) plays [] new takes = absurd takes
all_taken_made old (arrival ∷ arrivals) plays (reply ∷ replies) new takes =
    All-append IsMade (taken_on old arrival takes.0 reply takes.2 takes.4)
    (all_taken_on takes.2 arrivals takes.1 replies new takes.5)
    (taken_made old arrival takes.0 reply takes.2 takes.4) (all_taken_made takes.2 arrivals takes.1 replies new takes.5)

pub desks_make_the_plays : DesksMakeThePlays
desks_make_the_plays playout arrivals plays replies run =
    All-append IsMade (all_taken_on (opening playout) arrivals run.taken replies run.filled run.takes)
    (flushed_on run.filled run.flushed run.empty run.flush)
    (all_taken_made (opening playout) arrivals run.taken replies run.filled run.takes)
    (flushed_made run.filled run.flushed run.empty run.flush)

-- Two runs make them on the same desks

same_made :
    (desk desk' : State) (play play' : Play) (rest rest' : List PlayOn) → desk ≡ desk' → play ≡ play' → rest ≡ rest'
    → record { desk = desk; play = play } ∷ rest ≡ record { desk = desk'; play = play' } ∷ rest'
same_made desk desk' play play' rest rest' d p r = λ i. record { desk = d i; play = p i } ∷ r i

module _ (unique : Uniqueness) where
  one_due_on :
      (old old' : State) (seq ssrc : ℕ) (plays plays' : List Play) (new new' : State) → old ≡ old' → IsOrderly old
      → (a : ArePlaysDue old seq ssrc plays new) (b : ArePlaysDue old' seq ssrc plays' new')
      → due_on old seq ssrc plays new a ≡ due_on old' seq ssrc plays' new' b
  one_due_on old old' seq ssrc [] [] new new' same orderly a b = refl
  one_due_on old old' seq ssrc [] (play' ∷ plays') new new' same orderly a b =
      absurd (a.0 (subst (λ (s : State). IsDue s seq ssrc) (sym same) b.0))
  one_due_on old old' seq ssrc (play ∷ plays) [] new new' same orderly a b =
      absurd (b.0 (subst (λ (s : State). IsDue s seq ssrc) same a.0))
  one_due_on old old' seq ssrc (play ∷ plays) (play' ∷ plays') new new' same orderly a b =
      let is : IsPlay old.playout.window old play' b.1.0 =
      subst (λ (s : State). IsPlay s.playout.window s play' b.1.0) (sym same) b.1.1 in
      same_made old old' play play' (due_on a.1.0 seq ssrc plays new a.1.2) (due_on b.1.0 seq ssrc plays' new' b.1.2) same
      (one_play unique old.playout.window old orderly play play' a.1.0 b.1.0 a.1.1 is)
      (one_due_on a.1.0 b.1.0 seq ssrc plays plays' new new'
      (one_state_after unique old.playout.window old orderly play play' a.1.0 b.1.0 a.1.1 is)
      (orderly_after_play old.playout.window old play a.1.0 a.1.1 orderly) a.1.2 b.1.2)

  one_flushed_on :
      (old old' : State) (plays plays' : List Play) (new new' : State) → old ≡ old' → IsOrderly old
      → (a : IsFlush old plays new) (b : IsFlush old' plays' new') → flushed_on old plays new a ≡ flushed_on old' plays' new' b
  one_flushed_on old old' [] [] new new' same orderly a b = refl
  one_flushed_on old old' [] (play' ∷ plays') new new' same orderly a b =
      let step = subst (λ (s : State). IsFlushStep s play' b.0) (sym same) b.1 in
      absurd (a.0 (step.highest, step.highest_is.inside, step.more))
  one_flushed_on old old' (play ∷ plays) [] new new' same orderly a b =
      let step = subst (λ (s : State). IsFlushStep s play a.0) same a.1 in
      absurd (b.0 (step.highest, step.highest_is.inside, step.more))
  one_flushed_on old old' (play ∷ plays) (play' ∷ plays') new new' same orderly a b =
      let step = subst (λ (s : State). IsFlushStep s play' b.0) (sym same) b.1 in
      same_made old old' play play' (flushed_on a.0 plays new a.2) (flushed_on b.0 plays' new' b.2) same
      (one_flush_step unique old orderly play play' a.0 b.0 a.1 step)
      (one_flushed_on a.0 b.0 plays plays' new new' (one_state_after_step unique old orderly play play' a.0 b.0 a.1 step)
      (orderly_after_play _ old play a.0 a.1.plays orderly) a.2 b.2)

  one_before_on :
      (old old' : State) (seq ssrc : ℕ) (plays plays' : List Play) (new new' : State) → old ≡ old' → IsOrderly old
      → (a : ArePlaysBefore old seq ssrc plays new) (b : ArePlaysBefore old' seq ssrc plays' new')
      → before_on old seq ssrc plays new a ≡ before_on old' seq ssrc plays' new' b
  one_before_on old old' seq ssrc plays plays' new new' same orderly (by_flush empty fresh a counts) (by_flush empty' fresh' b counts') =
      one_flushed_on old old' plays plays' empty empty' same orderly a b
  one_before_on old old' seq ssrc plays plays' new new' same orderly (by_flush empty fresh a counts) (by_due stale b) =
      absurd (stale (subst (λ (s : State). IsFresh s ssrc) same fresh))
  one_before_on old old' seq ssrc plays plays' new new' same orderly (by_due stale a) (by_flush empty fresh b counts) =
      absurd (stale (subst (λ (s : State). IsFresh s ssrc) (sym same) fresh))
  one_before_on old old' seq ssrc plays plays' new new' same orderly (by_due stale a) (by_due stale' b) =
      one_due_on old old' seq ssrc plays plays' new new' same orderly a b

  one_then_on :
      (old old' : State) (arrival : Arrival) (plays plays' : List Play) (reply reply' : Option Reply) (new new' : State)
      → old ≡ old' → IsOrderly old → (a : TakesThen old arrival plays reply new) (b : TakesThen old' arrival plays' reply' new')
      → taken_then_on old arrival plays reply new a ≡ taken_then_on old' arrival plays' reply' new' b
  one_then_on old old' (carries time seq ssrc word) plays plays' None reply' new new' same orderly a b = absurd a
  one_then_on old old' (carries time seq ssrc word) plays plays' (Some reply) None new new' same orderly a b = absurd b
  one_then_on old old' (carries time seq ssrc word) plays plays' (Some reply) (Some reply') new new' same orderly a b =
      one_before_on old old' seq ssrc plays plays' a.0 b.0 same orderly a.1 b.1
  one_then_on old old' (protects time stream parity) plays plays' reply reply' new new' same orderly a b = refl
  one_then_on old old' (refused time stream) plays plays' reply reply' new new' same orderly a b = refl

  one_steps_held_on :
      (old old' : State) (time : ℕ) (plays plays' : List Play) (new new' : State) → old ≡ old' → IsOrderly old
      → (a : AreHeldPlays old time plays new) (b : AreHeldPlays old' time plays' new')
      → steps_held_on old time plays new a ≡ steps_held_on old' time plays' new' b
  one_steps_held_on old old' time [] [] new new' same orderly a b = refl
  one_steps_held_on old old' time [] (play' ∷ plays') new new' same orderly a b =
      let step = subst (λ (s : State). IsHeldPlay (at_time s time) play' b.0) (sym same) b.1 in
      absurd (a.0 step.greatest step.greatest_is.inside)
  one_steps_held_on old old' time (play ∷ plays) [] new new' same orderly a b =
      let step = subst (λ (s : State). IsHeldPlay (at_time s time) play a.0) same a.1 in
      absurd (b.0 step.greatest step.greatest_is.inside)
  one_steps_held_on old old' time (play ∷ plays) (play' ∷ plays') new new' same orderly a b =
      let step = subst (λ (s : State). IsHeldPlay (at_time s time) play' b.0) (sym same) b.1 in
      let at = at_time_orderly old time orderly in
      same_made (at_time old time) (at_time old' time) play play' (steps_held_on a.0 time plays new a.2)
      (steps_held_on b.0 time plays' new' b.2) (ap (λ (s : State). at_time s time) same)
      (one_held_play unique (at_time old time) at play play' a.0 b.0 a.1 step)
      (one_steps_held_on a.0 b.0 time plays plays' new new'
      (one_state_after_held unique (at_time old time) at play play' a.0 b.0 a.1 step)
      (orderly_after_play _ (at_time old time) play a.0 a.1.plays at) a.2 b.2)

  pub one_held_on :
      (old old' : State) (time : ℕ) (plays plays' : List Play) (new new' : State) → old ≡ old' → IsOrderly old
      → (a : ArePlaysHeld old time plays new) (b : ArePlaysHeld old' time plays' new')
      → held_on old time plays new a ≡ held_on old' time plays' new' b
  one_held_on old old' time plays plays' new new' same orderly (unlimited none no_plays is) (unlimited none' no_plays' is') = refl
  one_held_on old old' time plays plays' new new' same orderly (unlimited none no_plays is) (limited some steps) =
      absurd (some (ap (λ (s : State). s.playout.hold) (sym same) ∙ none))
  one_held_on old old' time plays plays' new new' same orderly (limited some steps) (unlimited none no_plays is) =
      absurd (some (ap (λ (s : State). s.playout.hold) same ∙ none))
  one_held_on old old' time plays plays' new new' same orderly (limited some a) (limited some' b) =
      one_steps_held_on old old' time plays plays' new new' same orderly a b

  one_taken_on :
      (old old' : State) (arrival : Arrival) (plays plays' : List Play) (reply reply' : Option Reply) (new new' : State)
      → old ≡ old' → IsOrderly old → (a : Takes old arrival plays reply new) (b : Takes old' arrival plays' reply' new')
      → taken_on old arrival plays reply new a ≡ taken_on old' arrival plays' reply' new' b
  one_taken_on old old' arrival plays plays' reply reply' new new' same orderly a b =
      let ready = one_holding unique old arrival a.held b.held a.ready b.ready orderly a.holds
      (subst (λ (s : State). ArePlaysHeld s (time_of arrival) b.held b.ready) (sym same) b.holds) in
      let held = one_held_on old old' (time_of arrival) a.held b.held a.ready b.ready same orderly a.holds b.holds in
      let rest = one_then_on a.ready b.ready arrival a.after b.after reply reply' new new' ready.state ready.orderly a.takes b.takes in
      λ i. held i ++ rest i

  pub one_all_taken_on :
      (old old' : State) (arrivals : List Arrival) (plays plays' : List Play) (replies replies' : List (Option Reply))
      (new new' : State) → old ≡ old' → IsOrderly old → All IsRead arrivals
      → (a : TakesAll old arrivals plays replies new) (b : TakesAll old' arrivals plays' replies' new')
      → all_taken_on old arrivals plays replies new a ≡ all_taken_on old' arrivals plays' replies' new' b
  one_all_taken_on old old' [] plays plays' replies replies' new new' same orderly read a b = refl
  one_all_taken_on old old' (arrival ∷ arrivals) plays plays' [] replies' new new' same orderly read a b = absurd a
  one_all_taken_on old old' (arrival ∷ arrivals) plays plays' (reply ∷ replies) [] new new' same orderly read a b = absurd b
  one_all_taken_on old old' (arrival ∷ arrivals) plays plays' (reply ∷ replies) (reply' ∷ replies') new new' same orderly read a b =
      let step = one_taking unique old arrival a.0 b.0 reply reply' a.2 b.2 orderly (All-head IsRead arrival arrivals read) a.4
      (subst (λ (s : State). Takes s arrival b.0 reply' b.2) (sym same) b.4) in
      let first = one_taken_on old old' arrival a.0 b.0 reply reply' a.2 b.2 same orderly a.4 b.4 in
      let rest = one_all_taken_on a.2 b.2 arrivals a.1 b.1 replies replies' new new' step.state step.orderly
      (All-tail IsRead arrival arrivals read) a.5 b.5 in
      λ i. first i ++ rest i

  pub one_list_of_desks : OneListOfDesks
  one_list_of_desks playout arrivals plays plays' replies replies' one other read =
      let end = one_taking_all unique (opening playout) arrivals one.taken other.taken replies replies' one.filled other.filled
      (orderly_opening playout) read one.takes other.takes in
      let taken = one_all_taken_on (opening playout) (opening playout) arrivals one.taken other.taken replies replies'
      one.filled other.filled refl (orderly_opening playout) read one.takes other.takes in
      let flushed = one_flushed_on one.filled other.filled one.flushed other.flushed one.empty other.empty end.state end.orderly
      one.flush other.flush in
      λ i. taken i ++ flushed i
